-- Messages, which buffers and blackboards hold.
use Rattle.std.specs.Prelude.{ℕ, Bool, ◌==◌, ◌||◌, nat_lt}
use Rattle.apex_types.specs.Terms.{Message}

-- the message is empty, or longer than this
abbrev pub is_unfit : ℕ → Message → Bool
is_unfit longest message = message.length == 0 || nat_lt longest message.length
