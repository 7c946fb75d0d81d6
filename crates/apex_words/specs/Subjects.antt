-- What a fault is about: a place of the table's text, and the part of it that is at fault.
use Rattle.std.specs.Prelude.{ℕ}
use Rattle.apex_words.specs.declared.subject.Part.TheVariants.{Whole, Key as KeyOf, OtherKey, Step, Word}
use Rattle.apex_words.specs.Terms.{Key, Place, Subject}

-- the section or the entry as a whole
abbrev pub whole : Place → Subject
whole at = record { place = at; part = Whole }

-- a key, which is absent or whose value is at fault
abbrev pub at_key : Place → Key → Subject
at_key at key = record { place = at; part = KeyOf key }

-- the key at place i, counted from 0 in the order of their bytes, which the section does not have
abbrev pub at_other_key : Place → ℕ → Subject
at_other_key at i = record { place = at; part = OtherKey i }

-- step k, counted from 0, as a whole
abbrev pub at_step : Place → ℕ → Subject
at_step at k = record { place = at; part = Step k }

-- word n of step k, both counted from 0: the service is word 0
abbrev pub at_word : Place → ℕ → ℕ → Subject
at_word at k n = record { place = at; part = Word k n }
