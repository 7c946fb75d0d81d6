-- The process of words.
use Rattle.std.specs.Prelude.{ℕ, ◌<◌, ◌==◌, Bool, List, drop, filter_map, None, slice_index, pos}
use Rattle.apex_recall.specs.Terms.{Attributes, Holding, Record}
use Rattle.apex_recall.specs.Values.{byte_of, holding_in, instant_in, suspender_in, wait_of}
use Rattle.apex_types.specs.declared.limits.TheConstants.{MOST_CORES}

-- the mutexes of these words
abbrev pub owned_in : List ℕ → List Holding
owned_in words = filter_map holding_in words

-- the first byte of the word is the number of a core
abbrev pub IsCoreWord : ℕ → Type 0
IsCoreWord word = byte_of word 0 < MOST_CORES

-- the process of these words is created
abbrev pub is_created_in : List ℕ → Bool
is_created_in words = byte_of (slice_index words 1) 0 == 1

-- the record of these words, with these attributes and an empty inbox
abbrev pub record_from : Attributes → List ℕ → Record
record_from attributes words =
    let bytes = slice_index words 0 in let marks = slice_index words 1 in record {
      attributes = attributes;
      core = byte_of bytes 0;
      base = byte_of bytes 1;
      started = byte_of bytes 2 == 1;
      suspended = suspender_in (byte_of bytes 3);
      wait = wait_of (byte_of bytes 4) (byte_of bytes 5) (slice_index words 2);
      since = pos (slice_index words 3);
      due = instant_in (byte_of marks 1 == 1) (slice_index words 4);
      deadline = instant_in (byte_of marks 2 == 1) (slice_index words 5);
      release = slice_index words 6;
      owned = owned_in (drop 7 words);
      step = byte_of bytes 6;
      inbox = None;
    }
