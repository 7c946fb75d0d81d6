-- A receipt of a history, and a voice's knowledge of it.
use Rattle.std.specs.Prelude.{◌≡◌, ℕ, ◌+◌, ◌≤◌, Bool, true, false, List, [], ◌∷◌, ◌++◌, length, filter, map, slice_index_or}
use Rattle.std.specs.List.{range_with_len}
use Rattle.logbook.specs.Pages.{Book}
use Rattle.apex_types.specs.declared.entries.Entry.{Entry}
use Rattle.apex_types.specs.declared.entries.Who.{Who}
use Rattle.apex_types.specs.declared.entries.Who.TheVariants.{Core, Ticker}
use Rattle.apex_machine.specs.Works.{is_turn_of}
use Rattle.apex_receipts.specs.declared.law.Note.{Note}
use Rattle.apex_receipts.specs.Notes.{entries_of, written}
use Rattle.apex_receipts.specs.Rules.{Speech}

-- these two are the same core, or both the ticker
abbrev pub is_who : Who → Who → Bool
is_who (Core core) other = is_turn_of core other
is_who Ticker Ticker = true
is_who Ticker (Core core) = false

-- the entries of this core or of the ticker, in their order
abbrev pub own_entries : Who → List Entry → List Entry
own_entries who history = filter (λ (e : Entry). is_who who e.who) history

-- the number of these entries
abbrev pub count_who : Who → List Entry → ℕ
count_who who history = length (own_entries who history)

-- the entry is in the history at its number, and the place is its number among those of its core or
-- of the ticker
pub record IsAtItsPlace (history : List Entry) (e : Entry) (place : ℕ) : Type 0 where
  pub before : List Entry
  pub after : List Entry
  pub parts : history ≡ before ++ e ∷ after
  pub at_number : e.number ≡ length before + 1
  pub at_place : place ≡ count_who e.who before + 1

-- a receipt as contracts see it
pub record Confirmed : Type 0 where
  pub entry : Entry
  pub place : ℕ

-- a voice as contracts see it: its core or the ticker, the entries that were written down for it,
-- and whether it knows that the history is full
pub record Spoken : Type 0 where
  pub who : Who
  pub own : List Entry
  pub told : Bool

-- a voice for which nothing was written down
abbrev pub unspoken : Who → Spoken
unspoken who = record { who = who; own = []; told = false }

-- such voices of n cores, in the order of their numbers
abbrev pub unspoken_cores : ℕ → List Spoken
unspoken_cores cores = map (λ (core : ℕ). unspoken (Core core)) (range_with_len 0 cores)

-- a voice after one entry more
abbrev pub with_entry : Spoken → Entry → Spoken
with_entry voice e = record { who = voice.who; own = voice.own ++ e ∷ []; told = voice.told }

-- and after it learned that the history is full
abbrev pub told_full : Spoken → Spoken
told_full voice = record { who = voice.who; own = voice.own; told = true }

-- an opened book as contracts see it: the book, and its speakers: the scribe, one for each core,
-- and one for the ticker
pub record Opening : Type 0 where
  pub book : Book
  pub scribe : ℕ
  pub cores : List ℕ
  pub ticker : ℕ

-- the speaker is of this book and has seen no note
abbrev pub IsSilent : Book → Speech → Type 0
IsSilent book speaker = (speaker.book ≡ book) × (speaker.log ≡ [])

-- the ids of these speakers
abbrev pub speaker_ids : List Speech → List ℕ
speaker_ids speakers = map (λ (s : Speech). s.id) speakers

-- the speaker of a core or of the ticker
abbrev pub voice_of : List ℕ → ℕ → Who → ℕ
voice_of cores ticker (Core core) = slice_index_or cores core 0
voice_of cores ticker Ticker = ticker

-- a partition is named after this opened book: it has the book, and speakers of it
abbrev pub IsNamedAfter : Book → ℕ → (Who → ℕ) → Opening → Type 0
IsNamedAfter book scribe voice opened =
    (book ≡ opened.book) × (scribe ≡ opened.scribe) × (voice ≡ voice_of opened.cores opened.ticker)

-- neither a core nor the ticker has more entries than were written down for its speaker
abbrev pub IsLabelled : ℕ → (Who → ℕ) → List Note → Type 0
IsLabelled l voice log = (who : Who) → count_who who (entries_of l log) ≤ written l (voice who) log
