-- A reply that refuses no call counts for no service.
use Rattle.std.proofs.Common.{◌≡◌, ℕ, ◌<◌, Bool, true, false, List, [], ◌∷◌, get_or, length, map, zero, suc, refl, sym, ap, ◌∙◌, arith}
use Rattle.std.proofs.lemmas.Bool.{true≢false}
use Rattle.apex_calls.specs.declared.catalogue.Service.TheVariants.{SetPartitionMode}
use Rattle.apex_types.specs.declared.entries.Reply.TheVariants.{Code}
use Rattle.apex_types.specs.declared.entries.ReturnCode.TheVariants.{NoAction, NotAvailable, InvalidParam, InvalidConfig, InvalidMode}
use Rattle.apex_report.specs.Services.{is_call_of}
use Rattle.apex_report.specs.Steps.{is_refusal, no_refusals, refusals_with, service_after}
use Rattle.apex_report.specs.Terms.{Entry, Refusals, Reply, ServiceFigures}
use Rattle.apex_report.proofs.Unconcerned.{refusals_kept}

abbrev with_counts : ServiceFigures → Refusals → ServiceFigures
with_counts f counts = record f { refusals = counts }

unrefused : (reply : Reply) (r : Refusals) → is_refusal reply ≡ false → refusals_with true reply r ≡ r
unrefused (Code NoAction) r fails = absurd (true≢false fails)
unrefused (Code NotAvailable) r fails = absurd (true≢false fails)
unrefused (Code InvalidParam) r fails = absurd (true≢false fails)
unrefused (Code InvalidConfig) r fails = absurd (true≢false fails)
unrefused (Code InvalidMode) r fails = absurd (true≢false fails)
unrefused reply r fails = refusals_kept false reply r refl

-- the figures of a service stay as they are at an entry without a call of it
pub service_kept : (e : Entry) (f : ServiceFigures) → is_call_of f.service e ≡ false → f ≡ service_after e f
service_kept e f fails =
    sym (ap (with_counts f) (refusals_kept (is_call_of f.service e) e.reply f.refusals fails))

by_call : (e : Entry) (f : ServiceFigures) (so : Bool) → is_refusal e.reply ≡ false
    → with_counts f (refusals_with so e.reply f.refusals) ≡ f
by_call e f true fails = ap (with_counts f) (unrefused e.reply f.refusals fails)
by_call e f false fails = ap (with_counts f) (refusals_kept false e.reply f.refusals refl)

-- a reply that refuses nothing counts for no service
pub none_refused : (e : Entry) (fs : List ServiceFigures) → is_refusal e.reply ≡ false → fs ≡ map (service_after e) fs
none_refused e [] fails = refl
none_refused e (f ∷ fs) fails =
    ap (λ g. g ∷ fs) (sym (by_call e f (is_call_of f.service e) fails))
    ∙ ap (λ gs. service_after e f ∷ gs) (none_refused e fs fails)

-- what stands in for the figures of a service past the end of a list
abbrev pub no_service : ServiceFigures
no_service = record { service = SetPartitionMode; refusals = no_refusals }

-- whatever stands in for an element past the end
pub item_here : {X : Type 0} (xs : List X) (i : ℕ) (d : X) → i < length xs → get_or xs i d ≡ get_or xs i (get_or xs i d)
item_here [] i d within = absurd (omega (arith, within))
item_here (x ∷ xs) zero d within = refl
item_here (x ∷ xs) (suc i) d within = item_here xs i d (omega (arith, within))
