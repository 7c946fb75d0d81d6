-- TOML's reading of bytes gives the tree of the text, or says that there is none.
use Rattle.std.proofs.Common.{◌≡◌, ℕ, Bool, true, false, List, Option, Some, None, Ok, Err, refl, if◌then◌else◌}
use Rattle.std.specs.Prelude.{IsUtf8}
use Rattle.std.specs.Str.{is_utf8}
use Rattle.std.proofs.lemmas.Str.{IsUtf8-from_is_utf8, is_utf8-from_IsUtf8}
use Rattle.toml.specs.Data.{Members}
use Rattle.toml.specs.Parse.{parse_document}
use Rattle.apex_words.specs.declared.fault.TableFault.TheVariants.{NotToml}
use Rattle.apex_words.specs.Outcome.{some_or}
use Rattle.apex_table.specs.Reading.{document}

found_text : (tree : Option Members) (b : Bool) (ms : Members) → b ≡ true → tree ≡ Some ms → some_or NotToml (if b then tree else None) ≡ Ok ms
found_text tree true ms _ e = rw e refl
found_text tree false ms h e = cc

pub found : (s : List ℕ) (ms : Members) → IsUtf8 s → parse_document s ≡ Some ms → document s ≡ Ok ms
found s ms utf8 e = found_text (parse_document s) (is_utf8 s) ms (is_utf8-from_IsUtf8 s utf8) e

no_text : (tree : Option Members) (b : Bool) → (b ≡ true → tree ≡ None) → some_or NotToml (if b then tree else None) ≡ Err NotToml
no_text tree true h = rw (h refl) refl
no_text tree false h = refl

pub refused : (s : List ℕ) → (IsUtf8 s → parse_document s ≡ None) → document s ≡ Err NotToml
refused s h = no_text (parse_document s) (is_utf8 s) (λ e. h (IsUtf8-from_is_utf8 s e))
