-- The older rivals of each process, counted place by place.
use Rattle.std.proofs.Common.{zero, suc, add-one, ◌≡◌, ◌∙◌, ◌+◌, ◌<◌, ◌≤◌, ◌==◌, ◌&&◌, ℕ, ℤ, Bool, true, false, not, List, Option, None, Some, count_by, int_lt, length, set, slice_index, take, if◌then◌else◌, inl, inr, refl, sym, ap, arith}
use Rattle.std.specs.Cmp.{both_ways}
use Rattle.std.proofs.lemmas.Bool.{cases_eq}
use Rattle.std.proofs.lemmas.Bool.Decides.{nat_tests}
use Rattle.std.proofs.lemmas.Int.{ints}
use Rattle.std.proofs.lemmas.List.{get_or-set_other, get_or-set_same, length-set, length-take-le, take_all}
use Rattle.std.proofs.lemmas.List.Sums.{count_by-le-length, count_by_more_no, count_by_more_yes}
use Rattle.apex_alike.specs.Canonical.{rank, shares, vies}
use Rattle.apex_machine.specs.processes.Queues.{is_same_queue}
use Rattle.apex_machine.specs.processes.Roster.{Roster, nobody, record_at}
use Rattle.apex_machine.specs.processes.Running.{is_eligible, is_older}
use Rattle.apex_machine.specs.processes.Waiters.{queue_in}
use Rattle.apex_forms.proofs.Forming.{before_more}
use Rattle.apex_forms.specs.Forms.{AreContests, AreCounted, AreRanks, contest_by, contest_of, older_before, vie}
use Rattle.apex_forms.specs.Terms.{Contest, Queue, Record}
use Rattle.apex_forms.specs.declared.forms.Contest.TheVariants as contests
use Rattle.apex_machine.proofs.Starts.{queue_itself, same_queue}
use Rattle.apex_types.specs.declared.limits.TheConstants.{MOST_PROCESSES}

-- two processes vie for one thing exactly if they are rivals
same_vie : (e f : Bool) (c d : ℕ) (q r : Option Queue)
    → vie (contest_by e c q) (contest_by f d r) ≡ (if e then f && d == c else not f && shares q r)
same_vie true true c d q r = refl
same_vie true false c d q None = refl
same_vie true false c d q (Some r) = refl
same_vie false true c d None r = refl
same_vie false true c d (Some q) r = refl
same_vie false false c d None None = refl
same_vie false false c d None (Some r) = refl
same_vie false false c d (Some q) None = refl
same_vie false false c d (Some q) (Some r) = refl

-- they vie both ways
same_number : (m n : ℕ) → (m == n) ≡ (n == m)
same_number m n = grind (arith, nat_tests)

queue_back : (q r : Queue) → is_same_queue q r ≡ true → is_same_queue r q ≡ true
queue_back q r e = rw (same_queue q r e) (queue_itself r)

vie_back : (c d : Contest) → vie c d ≡ vie d c
vie_back (contests.Core c) (contests.Core d) = same_number d c
vie_back (contests.Queue q) (contests.Queue r) =
    both_ways (is_same_queue q r) (is_same_queue r q) (queue_back q r) (queue_back r q)
vie_back contests.Nothing contests.Nothing = refl
vie_back contests.Nothing (contests.Core d) = refl
vie_back contests.Nothing (contests.Queue r) = refl
vie_back (contests.Core c) contests.Nothing = refl
vie_back (contests.Core c) (contests.Queue r) = refl
vie_back (contests.Queue q) contests.Nothing = refl
vie_back (contests.Queue q) (contests.Core d) = refl

-- the two processes at these places vie
abbrev pub vie_at : Roster → ℕ → ℕ → Bool
vie_at roster p q = vies roster.mode (record_at roster p) (record_at roster q)

abbrev pub since_at : Roster → ℕ → ℤ
since_at roster p = (record_at roster p).since

vies_contest : (roster : Roster) (p q : ℕ)
    → vie (contest_of roster.mode (record_at roster p)) (contest_of roster.mode (record_at roster q)) ≡ vie_at roster p q
vies_contest roster p q =
    let r = record_at roster p in
    let s = record_at roster q in
    same_vie (is_eligible roster.mode r) (is_eligible roster.mode s) r.core s.core (queue_in r) (queue_in s)

pub vies_back : (roster : Roster) (p q : ℕ) → vie_at roster p q ≡ vie_at roster q p
vies_back roster p q =
    sym (vies_contest roster p q)
    ∙ vie_back (contest_of roster.mode (record_at roster p)) (contest_of roster.mode (record_at roster q))
    ∙ vies_contest roster q p

-- what two processes vie for says whether they vie
pub vies_as : (roster : Roster) (p q : ℕ) (one other : Contest) (result : Bool) → one ≡ contest_of roster.mode (record_at roster p)
    → other ≡ contest_of roster.mode (record_at roster q) → result ≡ vie one other → vie_at roster p q ≡ result
vies_as roster p q one other result is_one is_other is =
    sym (vies_contest roster p q)
    ∙ ap (λ (c : Contest). vie c (contest_of roster.mode (record_at roster q))) (sym is_one)
    ∙ ap (vie one) (sym is_other) ∙ sym is

-- one without rivals vies with none
pub alone_at : (roster : Roster) (p q : ℕ) (one : Contest) → one ≡ contest_of roster.mode (record_at roster p)
    → ((other : Contest) → vie one other ≡ false) → vie_at roster p q ≡ false
alone_at roster p q one is_one alone =
    vies_as roster p q one (contest_of roster.mode (record_at roster q)) false is_one refl
    (sym (alone (contest_of roster.mode (record_at roster q))))

-- The count, one place more.

pub younger_not : (a b : ℤ) → int_lt b a ≡ true → int_lt a b ≡ false
younger_not a b e = grind (arith, ints, e)

pub not_itself : (a : ℤ) → int_lt a a ≡ false
not_itself a = grind (arith, ints)

pub older_no : (roster : Roster) (p q : ℕ) → q < length roster.records → (vie_at roster p q && int_lt (since_at roster q) (since_at roster p)) ≡ false
    → older_before roster p (q + 1) ≡ older_before roster p q
older_no roster p q known not_older =
    count_by_more_no (λ s. vies roster.mode (record_at roster p) s && is_older s (record_at roster p)) roster.records q nobody known not_older

pub older_yes : (roster : Roster) (p q : ℕ) → q < length roster.records → (vie_at roster p q && int_lt (since_at roster q) (since_at roster p)) ≡ true
    → older_before roster p (q + 1) ≡ older_before roster p q + 1
older_yes roster p q known older =
    count_by_more_yes (λ s. vies roster.mode (record_at roster p) s && is_older s (record_at roster p)) roster.records q nobody known older

-- two that do not vie, and one and itself
pub apart : (roster : Roster) (p q : ℕ) → q < length roster.records → vie_at roster p q ≡ false → older_before roster p (q + 1) ≡ older_before roster p q
apart roster p q known not = older_no roster p q known (rw not refl)

pub itself : (roster : Roster) (p : ℕ) → p < length roster.records → older_before roster p (p + 1) ≡ older_before roster p p
itself roster p known = older_no roster p p known (rw (not_itself (since_at roster p)) (and_false (vie_at roster p p)))
  where
    and_false : (b : Bool) → (b && false) ≡ false
    and_false true = refl
    and_false false = refl

-- one that vies with none has no older rivals
pub none_older : (roster : Roster) (p place : ℕ) → place ≤ length roster.records → ((q : ℕ) → vie_at roster p q ≡ false)
    → older_before roster p place ≡ 0
none_older roster p zero within none = refl
none_older roster p (suc place) within none =
    ap (older_before roster p) (sym (add-one place))
    ∙ apart roster p place (omega (arith, within)) (none place)
    ∙ none_older roster p place (omega (arith, within)) none

-- no more than there are
pub older_few : (roster : Roster) (p place : ℕ) → place ≤ length roster.records → older_before roster p place ≤ place
older_few roster p place within =
    omega (
      arith,
      length-take-le place roster.records within,
      count_by-le-length (λ s. vies roster.mode (record_at roster p) s && is_older s (record_at roster p)) (take place roster.records),
    )

-- The ranks of the processes before a place, of which those before `other` count the one there too.
pub record AreRanking (roster : Roster) (ranks : List ℕ) (place other : ℕ) : Type 0 where
  pub room : length ranks ≡ MOST_PROCESSES
  pub done : (p : ℕ) → p < other → slice_index ranks p ≡ older_before roster p (place + 1)
  pub left : (p : ℕ) → other ≤ p → p < place → slice_index ranks p ≡ older_before roster p place

pub ranking_ends : (roster : Roster) (ranks : List ℕ) (place other : ℕ) → AreRanking roster ranks place other → place ≤ other
    → AreCounted roster ranks place (place + 1)
ranking_ends roster ranks place other ranking all = record {
  room = ranking.room;
  each = λ p below. ranking.done p (omega (arith, below, all));
}

-- the next one has a rank that stays
pub ranking_same : (roster : Roster) (ranks : List ℕ) (place other : ℕ) → AreRanking roster ranks place other → other < place
    → older_before roster other (place + 1) ≡ older_before roster other place → AreRanking roster ranks place (other + 1)
ranking_same roster ranks place other ranking before stays = record {
  room = ranking.room;
  done = λ p below. elim (cases_eq p other) [
    | inl same ↦ rw same (ranking.left other (omega arith) before ∙ sym stays)
    | inr apart ↦ ranking.done p (before_more p other below apart)
  ];
  left = λ p above below. ranking.left p (omega (arith, above)) below;
}

-- the next one has a rank that grows
pub ranking_more : (roster : Roster) (ranks : List ℕ) (place other value : ℕ) → AreRanking roster ranks place other → other < place
    → place ≤ MOST_PROCESSES → older_before roster other (place + 1) ≡ older_before roster other place + 1
    → value ≡ slice_index ranks other + 1 → AreRanking roster (set ranks other value) place (other + 1)
ranking_more roster ranks place other value ranking before few grows is =
    let own : value ≡ older_before roster other (place + 1) =
    is ∙ ap (λ n. n + 1) (ranking.left other (omega arith) before) ∙ sym grows in
    record {
      room = length-set ranks other value ∙ ranking.room;
      done = λ p below. elim (cases_eq p other) [
        | inl same ↦ rw same (get_or-set_same ranks other value 0 (omega (arith, before, few, ranking.room)) ∙ own)
        | inr apart ↦ get_or-set_other ranks other p value 0 apart ∙ ranking.done p (before_more p other below apart)
      ];
      left = λ p above below. get_or-set_other ranks other p value 0 (λ e. omega (arith, e, above)) ∙ ranking.left p (omega (arith, above)) below;
    }

-- one rank more
pub counted_more : (roster : Roster) (ranks : List ℕ) (place q value : ℕ) → AreCounted roster ranks place (place + 1) → place < length roster.records
    → place < MOST_PROCESSES → q ≡ place → value ≡ older_before roster place place → AreCounted roster (set ranks q value) (place + 1) (place + 1)
counted_more roster ranks place q value counted known within here is =
    rw here (record {
      room = length-set ranks place value ∙ counted.room;
      each = λ p below. elim (cases_eq p place) [
        | inl same ↦ rw same (get_or-set_same ranks place value 0 (omega (arith, within, counted.room)) ∙ is ∙ sym (itself roster place known))
        | inr apart ↦ get_or-set_other ranks place p value 0 apart ∙ counted.each p (before_more p place below apart)
      ];
    })

-- one without rivals changes no rank
pub counted_alone : (roster : Roster) (ranks : List ℕ) (place : ℕ) → AreCounted roster ranks place place → place < length roster.records
    → ((q : ℕ) → vie_at roster place q ≡ false) → AreCounted roster ranks place (place + 1)
counted_alone roster ranks place counted known none = record {
  room = counted.room;
  each = λ p below. counted.each p below ∙ sym (apart roster p place known (vies_back roster p place ∙ none p));
}

-- once all of them are counted
pub ranks_counted : (roster : Roster) (ranks : List ℕ) (place : ℕ) → AreCounted roster ranks place place → length roster.records ≤ place
    → length roster.records ≤ MOST_PROCESSES → AreRanks roster ranks
ranks_counted roster ranks place counted all few = record {
  each = λ p known. counted.each p (omega (arith, known, all)) ∙ whole p;
  few = λ p known. omega (arith, few, count_by-le-length (λ s. vies roster.mode (record_at roster p) s && is_older s (record_at roster p)) roster.records);
} where
  whole : (p : ℕ) → older_before roster p place ≡ rank roster (record_at roster p)
  whole p = ap (count_by (λ s. vies roster.mode (record_at roster p) s && is_older s (record_at roster p))) (take_all place roster.records all)

-- one contest more
pub contests_more : (roster : Roster) (list : List Contest) (place q : ℕ) (one : Contest) → AreContests roster list place
    → place < MOST_PROCESSES → q ≡ place → one ≡ contest_of roster.mode (record_at roster q)
    → AreContests roster (set list place one) (place + 1)
contests_more roster list place q one are within here is =
    let own : one ≡ contest_of roster.mode (record_at roster place) = rw here at is in
    record {
      many = length-set list place one ∙ are.many;
      each = λ p other below. elim (cases_eq p place) [
        | inl same ↦ rw same (get_or-set_same list place one other (omega (arith, within, are.many)) ∙ own)
        | inr apart ↦ get_or-set_other list place p one other apart ∙ are.each p other (before_more p place below apart)
      ];
    }

-- What is known of the next process in each case, and what comes of it.

abbrev pub IsRanked : Roster → ℕ → ℕ → ℕ → List ℕ → Type 0
IsRanked roster place other older ranks = (older ≡ older_before roster place other) × AreRanking roster ranks place other

-- the two do not vie
pub step_apart : (roster : Roster) (place other older : ℕ) (ranks : List ℕ) → place < length roster.records → other < place
    → IsRanked roster place other older ranks → vie_at roster place other ≡ false → IsRanked roster place (other + 1) older ranks
step_apart roster place other older ranks known before (counted, ranking) not = (
  counted ∙ sym (apart roster place other (omega (arith, known, before)) not),
  ranking_same roster ranks place other ranking before (apart roster other place known (vies_back roster other place ∙ not)),
)

-- the next one is older
pub step_older : (roster : Roster) (place other older : ℕ) (fields others : Record) (ranks : List ℕ) → place < length roster.records → other < place
    → IsRanked roster place other older ranks → vie_at roster place other ≡ true → fields ≡ record_at roster place → others ≡ record_at roster other
    → is_older others fields ≡ true → IsRanked roster place (other + 1) (older + 1) ranks
step_older roster place other older fields others ranks known before (counted, ranking) vies is_fields is_others less =
    let first : int_lt (since_at roster other) (since_at roster place) ≡ true = rw (is_fields, is_others) at less in
    let second = younger_not (since_at roster place) (since_at roster other) first in (
      ap (λ n. n + 1) counted ∙ sym (older_yes roster place other (omega (arith, known, before)) (rw (vies, first) refl)),
      ranking_same roster ranks place other ranking before (older_no roster other place known (rw (vies_back roster other place ∙ vies, second) refl)),
    )

-- the next one is younger
pub step_younger : (roster : Roster) (place other older : ℕ) (fields others : Record) (ranks : List ℕ) (value : ℕ) → place < length roster.records
    → other < place → place ≤ MOST_PROCESSES
    → IsRanked roster place other older ranks → vie_at roster place other ≡ true → fields ≡ record_at roster place → others ≡ record_at roster other
    → is_older fields others ≡ true → value ≡ slice_index ranks other + 1 → IsRanked roster place (other + 1) older (set ranks other value)
step_younger roster place other older fields others ranks value known before few (counted, ranking) vies is_fields is_others less is =
    let first : int_lt (since_at roster place) (since_at roster other) ≡ true = rw (is_fields, is_others) at less in
    let second = younger_not (since_at roster other) (since_at roster place) first in (
      counted ∙ sym (older_no roster place other (omega (arith, known, before)) (rw (vies, second) refl)),
      ranking_more roster ranks place other value ranking before few
          (older_yes roster other place known (rw (vies_back roster other place ∙ vies, first) refl)) is,
    )

-- they are as old
pub step_level : (roster : Roster) (place other older : ℕ) (fields others : Record) (ranks : List ℕ) → place < length roster.records → other < place
    → IsRanked roster place other older ranks → vie_at roster place other ≡ true → fields ≡ record_at roster place → others ≡ record_at roster other
    → is_older others fields ≡ false → is_older fields others ≡ false → IsRanked roster place (other + 1) older ranks
step_level roster place other older fields others ranks known before (counted, ranking) vies is_fields is_others one two =
    let first : int_lt (since_at roster other) (since_at roster place) ≡ false = rw (is_fields, is_others) at one in
    let second : int_lt (since_at roster place) (since_at roster other) ≡ false = rw (is_fields, is_others) at two in (
      counted ∙ sym (older_no roster place other (omega (arith, known, before)) (rw (vies, first) refl)),
      ranking_same roster ranks place other ranking before (older_no roster other place known (rw (vies_back roster other place ∙ vies, second) refl)),
    )
