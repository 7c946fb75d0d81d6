-- The canonical records, made one after the other.
use Rattle.std.proofs.Common.{◌≡◌, ◌≢◌, ◌∙◌, ℕ, zero, suc, ◌+◌, ◌*◌, ◌<◌, ◌≤◌, List, [], ◌∷◌, length, get_or, set, pos, ℤ, slice_index, subst, refl, sym, ap, arith, inl, inr}
use Rattle.std.proofs.lemmas.Bool.{cases_eq}
use Rattle.std.proofs.lemmas.List.{ext_get_or, get_or-set_other, get_or-set_same, length-set}
use Rattle.apex_types.proofs.Places.{get_or-map_places, length-map_places}
use Rattle.apex_alike.specs.Canonical.{IsFit, age, canonical_record, canonical_roster, oldest_age, rank}
use Rattle.apex_machine.specs.processes.Roster.{Roster, nobody, record_at}
use Rattle.apex_forms.specs.Forms.{AreRanks, form_of, with_form, with_forms}
use Rattle.apex_forms.specs.Records.{FitsRecord}
use Rattle.apex_forms.specs.Terms.{Mode, Record}
use Rattle.apex_alike.proofs.Canonical.{oldest_less}

-- no record is older
pub oldest_least : (now : ℕ) (rs : List Record) (p : ℕ) → p < length rs
    → age now (get_or rs p nobody) ≤ oldest_age now rs
oldest_least now [] p within = absurd (omega (arith, within))
oldest_least now (r ∷ rs) zero within = omega arith
oldest_least now (r ∷ rs) (suc p) within = omega (arith, oldest_least now rs p (omega (arith, within)))

pub before_more : (p place : ℕ) → p < place + 1 → p ≢ place → p < place
before_more p place below other = omega (arith, below, other)

-- the records before a place have their canonical form, and nothing else has changed
pub record IsForming (old new : Roster) (now place : ℕ) : Type 0 where
  pub rest : new ≡ record old { records = new.records }
  pub many : length new.records ≡ length old.records
  pub done : (p : ℕ) → p < place → record_at new p ≡ canonical_record old now p (record_at old p)
  pub left : (p : ℕ) → place ≤ p → record_at new p ≡ record_at old p

-- the stamp of a record in canonical form
abbrev pub stamp_of : Roster → ℕ → ℤ
stamp_of old place = pos (1 + (rank old (record_at old place) * length old.records + place))

pub stamp_is : (old : Roster) (ranks : List ℕ) (place count : ℕ) (since : ℤ) → AreRanks old ranks → place < length old.records
    → count ≡ length old.records → since ≡ pos (1 + (slice_index ranks place * count + place))
    → since ≡ stamp_of old place
stamp_is old ranks place count since counted within many is = rw (counted.each place within, many) at is

-- one record more
forming_more : (old new : Roster) (now place : ℕ) → IsForming old new now place → place < length old.records
    → IsForming old (with_form new place (stamp_of old place) now) now (place + 1)
forming_more old new now place forming within =
    let form : Record = form_of new (stamp_of old place) now (record_at new place) in
    let same : form ≡ canonical_record old now place (record_at old place) =
    ap (λ (x : Roster). form_of x (stamp_of old place) now (record_at new place)) forming.rest
    ∙ ap (form_of old (stamp_of old place) now) (forming.left place (omega arith)) in
    let known : place < length new.records = omega (arith, within, forming.many) in
    record {
      rest = ap (λ (x : Roster). record x { records = set new.records place form }) forming.rest;
      many = length-set new.records place form ∙ forming.many;
      done = λ p below. elim (cases_eq p place) [
        | inl here ↦
            rw here (get_or-set_same new.records place form nobody known ∙ same)
        | inr other ↦
            get_or-set_other new.records place p form nobody other ∙ forming.done p (before_more p place below other)
      ];
      left = λ p above. get_or-set_other new.records place p form nobody (λ e. omega (arith, e, above))
          ∙ forming.left p (omega (arith, above));
    }

pub forming_as : (old new : Roster) (now place : ℕ) → IsForming old new now place → place < length old.records
    → (after : Roster) (q : ℕ) (since : ℤ) → after ≡ with_form new q since now → q ≡ place → since ≡ stamp_of old place
    → IsForming old after now (place + 1)
forming_as old new now place forming within after q since is here stamp =
    let form : after ≡ with_form new place (stamp_of old place) now = rw (here, stamp) at is in
    subst (λ (x : Roster). IsForming old x now (place + 1)) (sym form) (forming_more old new now place forming within)

-- the time stays, and is the greatest age at least
forming_time : (old new : Roster) (now place : ℕ) → IsForming old new now place → new.now ≡ old.now
forming_time old new now place forming = ap (λ (x : Roster). x.now) forming.rest

pub forming_age : (old new : Roster) (now place q : ℕ) → IsForming old new now place → place < length old.records → q ≡ place
    → now ≡ oldest_age old.now old.records → age new.now (record_at new q) ≤ now
forming_age old new now place q forming within here is =
    rw (here, forming.left place (omega arith), forming_time old new now place forming, is)
    (oldest_least old.now old.records place within)

pub forming_now : (old new : Roster) (now place : ℕ) → IsForming old new now place → IsFit old
    → now ≡ oldest_age old.now old.records → now ≤ new.now
forming_now old new now place forming fit is =
    omega (arith, is, forming_time old new now place forming, oldest_less old.now old.records fit.spans)

-- once all records have theirs
pub forming_ends : (old new : Roster) (now place : ℕ) → IsForming old new now place → length old.records ≤ place
    → new ≡ with_forms old now
forming_ends old new now place forming all =
    forming.rest ∙ ap (λ (rs : List Record). record old { records = rs }) (ext_get_or nobody new.records (with_forms old now).records
    (forming.many ∙ sym (length-map_places (canonical_record old now) 0 old.records))
    (λ p here.
    let within : p < length old.records = omega (arith, here, forming.many) in
    let z : 0 + p ≡ p = omega arith in
    let made : get_or (with_forms old now).records p nobody ≡ canonical_record old now p (record_at old p) =
    rw (get_or-map_places (canonical_record old now) 0 old.records p nobody nobody within, z) refl in
    forming.done p (omega (arith, within, all)) ∙ sym made))

-- the canonical roster, of its records
pub canonical_made : (old made : Roster) (mode : Mode) (now count : ℕ) (young : ℤ) → made ≡ with_forms old now
    → now ≡ oldest_age old.now old.records → mode ≡ made.mode → count ≡ length made.records → young ≡ pos (1 + (count + 1) * count)
    → record made { mode = mode; now = now; young = young; old = pos 0 } ≡ canonical_roster old
canonical_made old made mode now count young is oldest same many next =
    let all : count ≡ length old.records =
    many ∙ ap (λ (x : Roster). length x.records) is ∙ length-map_places (canonical_record old now) 0 old.records in
    rw (next, all, same, is, oldest) refl

-- The canonical records, read one by one.

pub length-canonical : (roster : Roster) → length (canonical_roster roster).records ≡ length roster.records
length-canonical roster = length-map_places (canonical_record roster (oldest_age roster.now roster.records)) 0 roster.records

pub canonical_at : (roster : Roster) (now place : ℕ) (r : Record) → place < length roster.records
    → now ≡ oldest_age roster.now roster.records → r ≡ canonical_record roster now place (record_at roster place)
    → r ≡ get_or (canonical_roster roster).records place nobody
canonical_at roster now place r within is form =
    let z : 0 + place ≡ place = omega arith in
    let oldest = oldest_age roster.now roster.records in
    form ∙ ap (λ (n : ℕ). canonical_record roster n place (record_at roster place)) is
    ∙ ap (λ (k : ℕ). canonical_record roster oldest k (record_at roster place)) (sym z)
    ∙ sym (get_or-map_places (canonical_record roster oldest) 0 roster.records place nobody nobody within)

pub canonical_stamp : (roster : Roster) (now place : ℕ) (r : Record) → r ≡ canonical_record roster now place (record_at roster place)
    → FitsRecord r
canonical_stamp roster now place r form =
    record { stamp = 1 + (rank roster (record_at roster place) * length roster.records + place); since = ap (λ (x : Record). x.since) form }
