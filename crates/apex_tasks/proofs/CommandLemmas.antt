-- What options ask for, by their texts.
use Rattle.std.proofs.Common.{◌≡◌, Bool, codes, refl, sym, List, Option, Some, None}
use Rattle.clap.specs.Words.{Row, Text, first_of}
use Rattle.apex_console.specs.Words.{says_given}
use Rattle.apex_tasks.specs.Words.{Given, LintSaid, SearchSaid, as_svg, given_by, given_in, lint_in, search_in, why_in, why_of}

pub same_svg : {f k l m a b o p : Option Text} {c d : Bool} → f ≡ k → l ≡ m → a ≡ b → o ≡ p → c ≡ d
    → as_svg f l a o c ≡ as_svg k m b p d
same_svg x y z w v = rw (x, y, z, w, v) refl

pub same_given : {s t u v k l e f : Option Text} → s ≡ t → u ≡ v → k ≡ l → e ≡ f → given_by s u k e ≡ given_by t v l f
same_given a b c d = rw (a, b, c, d) refl

-- a search, by the texts of its options
abbrev search_for_texts : (fact worst process service turns early states jobs : Option Text) → SearchSaid
search_for_texts fact worst process service turns early states jobs = record {
  fact = fact;
  worst = worst;
  process = process;
  service = service;
  turns = turns;
  early = early;
  states = states;
  jobs = jobs;
}

-- it is the one that the options ask for
pub same_search : {fact worst process service turns early states jobs : Option Text} (rows : List Row)
    → fact ≡ first_of (codes "for") rows → worst ≡ first_of (codes "worst") rows → process ≡ first_of (codes "process") rows
    → service ≡ first_of (codes "service") rows → turns ≡ first_of (codes "turns") rows
    → early ≡ first_of (codes "early") rows → states ≡ first_of (codes "states") rows → jobs ≡ first_of (codes "jobs") rows
    → search_for_texts fact worst process service turns early states jobs ≡ search_in rows
same_search rows a b c d e f g h = rw (a, b, c, d, e, f, g, h) refl

-- a lint, by its options
abbrev lint_for : Bool → Option Text → Option Text → LintSaid
lint_for json name allow = record { json = json; name = name; allow = allow }

-- it is the one that the options ask for
pub same_lint : {json : Bool} {name allow : Option Text} (rows : List Row)
    → json ≡ says_given (first_of (codes "json") rows) → name ≡ first_of (codes "name") rows
    → allow ≡ first_of (codes "allow") rows → lint_for json name allow ≡ lint_in rows
same_lint rows a b c = rw (a, b, c) refl

-- the reason of an entry, by the run and the text of the entry
pub same_why : {given : Given} {entry : Text} (rows : List Row) → Some given ≡ given_in rows → Some entry ≡ first_of (codes "entry") rows
    → Some (why_of given entry) ≡ why_in rows
same_why rows a b = rw (sym a, sym b) refl

-- no entry is given
pub no_why : {given : Given} (rows : List Row) → Some given ≡ given_in rows → None ≡ first_of (codes "entry") rows → None ≡ why_in rows
no_why rows a b = rw (sym a, sym b) refl
