-- Situations that are alike to situations that are alike.
use Rattle.std.proofs.Common.{◌≡◌, ℕ, ◌+◌, ◌*◌, ◌<◌, ◌⊎◌, Option, None, Some, inl, inr, refl, sym, ◌∙◌, ap, subst, arith}
use Rattle.std.proofs.Math.Nat.{add-mul}
use Rattle.apex_laws.specs.Terms.{Record}
use Rattle.apex_machine.specs.processes.Periods.{awaits_first}
use Rattle.apex_machine.specs.processes.Roster.{Roster, record_at}
use Rattle.apex_alike.specs.Alike.{AreAlike, AreRivals, IsLater, ServesFor, later, moved}
use Rattle.apex_alike.proofs.Choices.{same_runs, same_waits}
use Rattle.apex_alike.specs.Canonical.{IsFit}
use Rattle.apex_alike.specs.AlikeSteps.{AreAlikeSituations}
use Rattle.apex_machine.specs.Situations.{Situation}

pub unmoved : (k n : ℕ) → k ≡ 0 → k * n ≡ 0
unmoved k n e = rw e (omega arith)

later_twice : (d e : ℕ) (instant : Option ℕ) → later e (later d instant) ≡ later (d + e) instant
later_twice d e None = refl
later_twice d e (Some t) = let f : t + d + e ≡ t + (d + e) = omega arith in ap Some f

-- releases that serve
serves_then : (d e now : ℕ) (period : Option ℕ) (first second third : ℕ) → ServesFor d now period first second
    → ServesFor e (now + d) period second third → ServesFor (d + e) now period first third
serves_then d e now None first second third one other = tt
serves_then d e now (Some n) first second third one other =
    let split : (one.periods + other.periods) * n ≡ one.periods * n + other.periods * n = add-mul one.periods other.periods n in
    record {
      periods = one.periods + other.periods;
      is = omega (arith, split, one.is, other.is);
      past = by_past one.past other.past;
    } where
      by_past : (one.periods ≡ 0) ⊎ (first + n < now) → (other.periods ≡ 0) ⊎ (second + n < now + d)
          → (one.periods + other.periods ≡ 0) ⊎ (first + n < now)
      by_past (inr past) more = inr past
      by_past (inl none) (inl never) = inl (omega (arith, none, never))
      by_past (inl none) (inr past) =
          let same : first + d ≡ second = omega (arith, one.is, unmoved one.periods n none) in inr (omega (arith, same, past))

-- first d later, and then e
pub later_then : {d e now : ℕ} {r s t : Record} → IsLater d now r s → IsLater e (now + d) s t → IsLater (d + e) now r t
later_then {d} {e} {now} {r} {s} {t} one other = record {
  since = other.since;
  release = other.release;
  inbox = other.inbox;
  is = other.is ∙ ap (moved e other.since other.release other.inbox) one.is
      ∙ ap (λ (x : Option ℕ). record (moved e other.since other.release other.inbox (moved d one.since one.release one.inbox r)) { due = x })
      (later_twice d e r.due)
      ∙ ap (λ (x : Option ℕ). record (moved (d + e) other.since other.release other.inbox r) { deadline = x }) (later_twice d e r.deadline);
  released = λ begun free.
      let there = other.released (ap (λ (x : Record). x.started) one.is ∙ begun) (ap (λ (x : Record). awaits_first x.wait) one.is ∙ free) in
      serves_then d e now r.attributes.period r.release one.release other.release (one.released begun free)
      (subst (λ (x : Record). ServesFor e (now + d) x.attributes.period x.release other.release) one.is there);
  undue = one.undue;
  before = one.before;
  spans = one.spans;
}

-- rivals are rivals later
rivals_later : {d : ℕ} {one two : Roster} (alike : AreAlike d one two) (p q : ℕ)
    → AreRivals one.mode (record_at one p) (record_at one q) → AreRivals two.mode (record_at two p) (record_at two q)
rivals_later {d} {one} {two} alike p q (inl both) =
    inl (
      both.0,
      rw alike.mode (same_runs one.mode both.0 (record_at one p) (record_at two p) (alike.each p) ∙ both.1),
      rw alike.mode (same_runs one.mode both.0 (record_at one q) (record_at two q) (alike.each q) ∙ both.2),
    )
rivals_later {d} {one} {two} alike p q (inr both) =
    inr (
      both.0,
      same_waits both.0 (record_at one p) (record_at two p) (alike.each p) ∙ both.1,
      same_waits both.0 (record_at one q) (record_at two q) (alike.each q) ∙ both.2,
    )

pub alike_then : {d e : ℕ} {one two three : Roster} → AreAlike d one two → AreAlike e two three → AreAlike (d + e) one three
alike_then {d} {e} {one} {two} {three} first second = record {
  cores = second.cores ∙ first.cores;
  mode = second.mode ∙ first.mode;
  time = omega (arith, first.time, second.time);
  many = second.many ∙ first.many;
  each = λ p. later_then (first.each p)
      (subst (λ (t : ℕ). IsLater e t (record_at two p) (record_at three p)) first.time (second.each p));
  order = λ p q here there rivals.
      second.order p q (omega (arith, here, first.many)) (omega (arith, there, first.many)) (rivals_later first p q rivals)
      ∙ first.order p q here there rivals;
  disciplines = second.disciplines ∙ first.disciplines;
  rules = second.rules ∙ first.rules;
  stamped = first.stamped;
  stamped2 = second.stamped2;
}

pub situations_then : {d e : ℕ} {one two three : Situation} → AreAlikeSituations d one two → AreAlikeSituations e two three
    → AreAlikeSituations (d + e) one three
situations_then first second = record {
  rosters = alike_then first.rosters second.rosters;
  objects = second.objects ∙ first.objects;
  works = λ core. second.works core ∙ first.works core;
  made = second.made ∙ first.made;
}

-- a situation is alike to itself
later_none : (instant : Option ℕ) → later 0 instant ≡ instant
later_none None = refl
later_none (Some t) = let e : t + 0 ≡ t = omega arith in ap Some e

serves_itself : (now : ℕ) (period : Option ℕ) (release : ℕ) → ServesFor 0 now period release release
serves_itself now None release = tt
serves_itself now (Some n) release = record { periods = 0; is = omega arith; past = inl refl }

pub alike_itself : (roster : Roster) → IsFit roster → AreAlike 0 roster roster
alike_itself roster fit = record {
  cores = refl;
  mode = refl;
  time = omega arith;
  many = refl;
  each = λ p.
      let r = record_at roster p in
      record {
        since = r.since;
        release = r.release;
        inbox = r.inbox;
        is = ap (λ (t : Option ℕ). record r { due = t }) (sym (later_none r.due))
            ∙ ap (λ (t : Option ℕ). record r { due = later 0 r.due; deadline = t }) (sym (later_none r.deadline));
        released = λ begun free. serves_itself roster.now r.attributes.period r.release;
        undue = fit.undue p;
        before = fit.before p;
        spans = fit.spans p;
      };
  order = λ p q here there rivals. refl;
  disciplines = refl;
  rules = refl;
  stamped = fit.stamped;
  stamped2 = fit.stamped;
}
