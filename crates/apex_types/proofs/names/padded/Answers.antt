use Rattle.std.proofs.Common.{ℕ, List, ◌++◌, length, ap}
use Rattle.std.proofs.lemmas.List.{drop-replicate}
use Rattle.apex_types.specs.declared.limits.TheConstants.{MOST_NAME}
use Rattle.apex_types.proofs.names.padded.Goals as goal

-- behind the copied bytes the zeros are left
pub returns : goal.returns
returns c =
    let name = c.args.name.now in
    rw c.copy_from_slice.ensures.after (ap (λ (zeros : List ℕ). name ++ zeros) (drop-replicate (length name) MOST_NAME 0))
