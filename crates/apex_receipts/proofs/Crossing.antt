-- Voices and the scribe may go to other threads, as a set for `search`.
use denote.RattleType.{RattleType}
use denote.Param.Send.{IsSend, sendable}
use Rattle.std.proofs.Crossing.{crosses as below}
use Rattle.logbook.proofs.tokens.Pen.TheSendSync as pen
use Rattle.logbook.proofs.tokens.Seen.TheSendSync as seen
use Rattle.logbook.proofs.word.Word.TheSendSync as word
use Rattle.apex_receipts.specs.contracts.speakers.Speaker as Speaker
use Rattle.apex_receipts.specs.contracts.voices.Voice as Voice
use Rattle.apex_receipts.specs.contracts.scribes.Scribe as Scribe
use Rattle.apex_receipts.specs.declared.naming.Naming.{Ghosts}

speaker_send : IsSend Speaker.the_row
speaker_send = search (sendable, below, pen.the_send, seen.the_send) depth 30 fits 20000

pub voice_send : (P : RattleType) (g : Ghosts P.Denot) → IsSend P → IsSend (Voice.the_row P g)
voice_send P g s = search (sendable, below, speaker_send, seen.the_send) depth 30 fits 20000

pub scribe_send : (P : RattleType) (g : Ghosts P.Denot) → IsSend P → IsSend (Scribe.the_row P g)
scribe_send P g s = search (sendable, below, speaker_send, word.the_send) depth 30 fits 20000

pub ruleset crosses = (voice_send, scribe_send)
