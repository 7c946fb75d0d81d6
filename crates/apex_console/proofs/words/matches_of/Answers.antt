use Rattle.std.proofs.Common.{◌≡◌, subst, sym, map, string_bytes}
use Rattle.clap.specs.Words.{app_of, fault_of, kind_of}
use Rattle.clap.specs.Kinds.{FailsBy}
use Rattle.clap.specs.declared.error.kind.ErrorKind.TheVariants.{OutOfMemory}
use Rattle.apex_console.proofs.CommandLemmas.{has_fault, is_simple_too}
use Rattle.apex_console.proofs.words.matches_of.Goals as goal

pub returns-in-Ok-clause-ok : goal.returns-in-Ok-clause-ok
returns-in-Ok-clause-ok c =
    (c.in-Ok.ensures.kinds c.requires, sym (c.in-Ok.ensures.matches (is_simple_too (app_of c.args.command) c.requires)).1)

pub returns-clause-usage : goal.returns-clause-usage
returns-clause-usage c =
    let words = map string_bytes c.args.words.now in
    let kinds = subst (λ r. FailsBy (fault_of (app_of c.args.command) words) r) c.in-Err-2.is (c.try_get_matches_from.ensures.kinds c.requires) in
    let other : kind_of c.in-Err-2.field-0 ≡ OutOfMemory → ⊥ = λ memory.
    let same : c.kind.result ≡ OutOfMemory = cc in
    let equal = rw same at c.eq.ensures in
    cc in
    λ _. has_fault (fault_of (app_of c.args.command) words) c.in-Err-2.field-0 kinds other
