-- The values that threads share, and those that each of them owns and gives back, may go to other
-- threads, as a set for `search`.
use denote.RattleType.{RattleType}
use denote.Param.Send.{IsSend, IsSync, sendable}
use Rattle.std.proofs.Crossing.{crosses as below}
use Rattle.apex_receipts.specs.declared.naming.Naming.{Ghosts}
use Rattle.apex_receipts.specs.contracts.receipts.Receipt as Receipt
use Rattle.apex_receipts.proofs.Crossing.{crosses as receipts}
use Rattle.apex_receipts.proofs.receipts.Receipt.TheSendSync as receipt
use Rattle.apex_partition.proofs.partitions.Partition.TheSendSync as partition
use Rattle.atomic_table.proofs.shared.Seat.TheSendSync as seat
use Rattle.atomic_table.proofs.shared.Shared.TheSendSync as table
use Rattle.atomic_table.proofs.send_lease.SendLease.TheSendSync as lease
use Rattle.apex_board.specs.contracts.publishers.Publisher as Publisher
use Rattle.apex_board.specs.contracts.readers.Reader as Reader
use Rattle.apex_partition.specs.contracts.published.Published as Published
use Rattle.apex_partition.specs.contracts.seats.Seat as Seat
use Rattle.apex_partition.specs.contracts.seats.Ticker as Ticker
use Rattle.apex_partition.specs.contracts.shared.Shared as Shared
use Rattle.apex_cores.specs.contracts.cores.CoreReport as CoreReport

module _ (P : RattleType) (g : Ghosts P.Denot) where
  pub seat_send : IsSend P → IsSend (Seat.the_row P g)
  seat_send s = search (sendable, below, receipts) depth 30 fits 20000

  pub ticker_send : IsSend P → IsSend (Ticker.the_row P g)
  ticker_send s = search (sendable, below, receipts) depth 30 fits 20000

  publisher_send : IsSend P → IsSend (Publisher.the_row P g)
  publisher_send s = search (sendable, below, seat.the_send, table.the_send, table.the_sync, lease.the_send, lease.the_sync) depth 40 fits 40000

  published_send : IsSend P → IsSend (Published.the_row P g)
  published_send s = search (sendable, receipts, partition.the_send, publisher_send) depth 30 fits 20000

  pub shared_sync : IsSend P → IsSync (Shared.the_row P g)
  shared_sync s = search (sendable, below, published_send) depth 30 fits 20000

  pub reader_send : IsSend P → IsSend (Reader.the_row P g)
  reader_send s = search (sendable, below, seat.the_send, table.the_send, table.the_sync, lease.the_send, lease.the_sync) depth 40 fits 40000

  receipt_send : IsSend P → IsSync P → IsSend (Receipt.the_row P g)
  receipt_send s y = search (sendable, receipt.the_send) depth 20

  pub report_send : IsSend P → IsSync P → IsSend (CoreReport.the_row P g)
  report_send s y = search (sendable, below, seat_send, receipt_send) depth 30 fits 20000

pub ruleset crosses = (seat_send, ticker_send, shared_sync, reader_send)
