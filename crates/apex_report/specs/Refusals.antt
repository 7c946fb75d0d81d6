-- The replies that refuse a call, by their codes.
use Rattle.std.specs.Prelude.{Bool, true, false, List, count_by, nat_lt, ◌&&◌, ◌||◌}
use Rattle.apex_types.specs.declared.entries.Reply.TheVariants.{Code}
use Rattle.apex_types.specs.declared.entries.ReturnCode.TheVariants.{NoError, NoAction, NotAvailable, InvalidParam, InvalidConfig, InvalidMode, TimedOut}
use Rattle.apex_report.specs.Terms.{Entry, Refusals, Reply, ReturnCode}

-- the two codes are the same one
abbrev pub is_code : ReturnCode → ReturnCode → Bool
is_code NoError NoError = true
is_code NoAction NoAction = true
is_code NotAvailable NotAvailable = true
is_code InvalidParam InvalidParam = true
is_code InvalidConfig InvalidConfig = true
is_code InvalidMode InvalidMode = true
is_code TimedOut TimedOut = true
is_code _ _ = false

-- the reply is this code
abbrev pub is_reply : ReturnCode → Reply → Bool
is_reply code (Code given) = is_code code given
is_reply code _ = false

-- the entry passes the test, and its call is answered with this code
abbrev pub is_answered : (Entry → Bool) → ReturnCode → Entry → Bool
is_answered passes code e = passes e && is_reply code e.reply

-- the number of replies with each code that refuses a call, at the entries that pass; TIMED_OUT is no
-- reply, since it ends a wait by a notice
abbrev pub refusals : (Entry → Bool) → List Entry → Refusals
refusals passes history = record {
  no_action = count_by (is_answered passes NoAction) history;
  not_available = count_by (is_answered passes NotAvailable) history;
  invalid_param = count_by (is_answered passes InvalidParam) history;
  invalid_config = count_by (is_answered passes InvalidConfig) history;
  invalid_mode = count_by (is_answered passes InvalidMode) history;
}

-- one of the codes occurred
abbrev pub some_refused : Refusals → Bool
some_refused r =
    nat_lt 0 r.no_action || nat_lt 0 r.not_available || nat_lt 0 r.invalid_param
    || nat_lt 0 r.invalid_config
    || nat_lt 0 r.invalid_mode
