-- What may go to other threads, may go there as an option, too.
use denote.RattleType.{RattleType}
use denote.Param.Send.{IsSend, sendable}
use Rattle.std.specs.contracts.option.Option.{the_row as OptionOf}

pub option_send : (T : RattleType) → IsSend T → IsSend (OptionOf T)
option_send T s = search sendable depth 12
