-- The findings of a list of faults, one after the other.
use Rattle.std.proofs.Common.{◌≡◌, ◌∙◌, ◌++◌, ◌+◌, ◌<◌, ℕ, List, [], ◌∷◌, ap, drop, length, map, slice_index_or, sym}
use Rattle.std.proofs.lemmas.List.{append_assoc, drop_more, map-append}
use Rattle.apex_faults.specs.Terms.{Finding, TableFault}

abbrev fault_of : Finding → TableFault
fault_of f = f.fault

-- the faults of the findings so far, and those that are left, one finding further
pub one_further : (before after : List Finding) (found : Finding) (faults : List TableFault) (i : ℕ) (d : TableFault)
    → map fault_of before ++ drop i faults ≡ faults → i < length faults → found.fault ≡ slice_index_or faults i d
    → after ≡ before ++ found ∷ [] → map fault_of after ++ drop (i + 1) faults ≡ faults
one_further before after found faults i d so_far within is more =
    let left = drop (i + 1) faults in
    ap (λ (fs : List Finding). map fault_of fs ++ left) more
    ∙ ap (λ (ts : List TableFault). ts ++ left) (map-append fault_of before (found ∷ []))
    ∙ append_assoc (map fault_of before) (found.fault ∷ []) left
    ∙ ap (λ (t : TableFault). map fault_of before ++ (t ∷ left)) is
    ∙ ap (λ (ts : List TableFault). map fault_of before ++ ts) (sym (drop_more faults i d within))
    ∙ so_far
