-- The words of a canonical form can be put and restored.
use Rattle.std.proofs.Common.{ℕ, ◌+◌, ◌*◌, ◌^◌, ◌<◌, ◌≤◌, List, length, get_or, slice_index, ap, sym, ◌∙◌, refl, arith, subst, inl, inr, Option, None, Some}
use Rattle.std.specs.Prelude.{◌&&◌, false}
use Rattle.std.specs.Option.{ForSome}
use Rattle.std.proofs.lemmas.Bool.{cases_lt}
use Rattle.std.proofs.lemmas.List.{get_or_past}
use Rattle.std.proofs.lemmas.List.Sums.{count_by-le-length}
use Rattle.std.proofs.lemmas.Nat.{mul-le}
use Rattle.apex_alike.specs.Canonical.{canonical_record, canonical_roster, oldest_age, rank, vies}
use Rattle.apex_machine.proofs.BothProfiles.{few_processes}
use Rattle.apex_machine.specs.processes.Roster.{nobody, record_at}
use Rattle.apex_machine.specs.processes.Running.{is_older}
use Rattle.apex_machine.specs.services.ProcessServices.{ProcessObject}
use Rattle.apex_machine.specs.table.Profiles.{processes_of}
use Rattle.apex_machine.specs.table.Table.{IsLawful, Table}
use Rattle.apex_pace.specs.Pace.{Paced}
use Rattle.apex_types.proofs.Places.{length-map_places}
use Rattle.apex_types.specs.declared.limits.TheConstants.{MOST_PROCESSES}
use Rattle.apex_recall.proofs.Exact.{held, record_is}
use Rattle.apex_forms.proofs.Lengths.{length-words}
use Rattle.apex_recall.proofs.RecordsBack.{core_back}
use Rattle.apex_recall.proofs.WordsBack.{core_part_is, record_part_is}
use Rattle.apex_forms.specs.Forms.{canonical_paced}
use Rattle.apex_recall.specs.Reached.{IsReached}
use Rattle.apex_forms.specs.Records.{FitsRecord, stamp_word}
use Rattle.apex_recall.specs.Records.{IsCoreWord}
use Rattle.apex_recall.specs.Restored.{IsStored, IsWorkWords}
use Rattle.apex_recall.specs.Formed.{FormFits, form_words}
use Rattle.apex_forms.specs.Stored.{FitsWords, core_words}
use Rattle.apex_recall.specs.Terms.{OpenWork, Pace, Record}

-- the canonical form fits in words
fits : (pace : Pace) (table : Table) (s : Paced) → IsReached table s
    → FitsWords table (canonical_paced pace s)
fits pace table s reached =
    let roster = s.situation.roster in
    let now = oldest_age roster.now roster.records in
    let counted = length-map_places (canonical_record roster now) 0 roster.records in
    record {
      many = counted ∙ reached.of.records;
      objects = reached.of.objects;
      records = λ p. elim (cases_lt p (length roster.records)) as (λ _.
          FitsRecord (record_at (canonical_roster roster) p)) [
            | inl within ↦ record {
              stamp = 1 + (rank roster (record_at roster p) * length roster.records + p);
              since = ap (λ (r : Record). r.since) (record_is roster p within);
            }
            | inr past ↦
                let none_here : length (canonical_roster roster).records ≤ p = omega arith in
                record {
                  stamp = 0;
                  since = ap (λ (r : Record). r.since)
                      (get_or_past (canonical_roster roster).records p nobody none_here);
                }
          ];
    }

work_words : (begun : Option OpenWork) (turns worked : ℕ)
    → ForSome begun (λ o. (o.work.process < 256) × (1 ≤ o.work.amount) × (o.work.amount < 2 ^ 32))
    → IsWorkWords (core_words begun turns worked)
work_words None turns worked amounts = record {
  process = omega arith;
  amount = λ some. absurd (some refl);
  few = omega arith;
}
work_words (Some o) turns worked amounts = record {
  process = (amounts o refl).0;
  amount = λ some. (amounts o refl).1;
  few = (amounts o refl).2;
}

-- the words of the canonical form are those of a situation of the table
stored : (pace : Pace) (table : Table) → IsLawful table → (s : Paced) → IsReached table s
    → IsStored table (form_words pace table s)
stored pace table lawful s reached =
    let form = canonical_paced pace s in
    let roster = s.situation.roster in
    let n = length roster.records in
    let most : length table.processes ≤ processes_of table.profile = lawful.process_count.1 in
    let few : length table.processes ≤ MOST_PROCESSES = omega (arith, few_processes table.profile) in
    let there = held pace table lawful s reached in
    let many = length-words table form (fits pace table s reached) in
    let records = reached.of.records in
    let o : ProcessObject = record { created = false } in
    let processes = reached.of.objects.processes in
    let in_form = there.many in
    record {
      many = many;
      cores = record {
        many = omega arith;
        each = λ core within. subst IsWorkWords (sym (core_part_is table form core within))
            (work_words (s.situation.works core) (form.turns core) (form.worked core)
            (λ o is.
            let process : o.work.process < 256 = omega (arith, reached.of.workers core o is, few) in
            let amount = reached.amounts core o is in
            (process, amount.0, amount.1)));
      };
      records = record {
        many = omega arith;
        cores = λ p within.
            let in_os : p < length form.situation.objects.processes = omega arith in
            let in_rs : p < length form.situation.roster.records = omega arith in
            subst (λ (words : List ℕ). IsCoreWord (slice_index words 0))
            (sym (record_part_is table form p o in_os in_rs))
            (core_back (get_or form.situation.objects.processes p o).created
            (record_at form.situation.roster p) (there.records p in_rs));
        stamps = λ p within.
            let in_os : p < length form.situation.objects.processes = omega arith in
            let in_rs : p < length form.situation.roster.records = omega arith in
            let known : p < n = omega arith in
            let stamp = rank roster (record_at roster p) in
            let below : rank roster (record_at roster p) ≤ length roster.records =
            count_by-le-length (λ r. vies roster.mode (record_at roster p) r
            && is_older r (record_at roster p)) roster.records in
            let product = mul-le (rank roster (record_at roster p)) n MOST_PROCESSES MOST_PROCESSES
            (omega arith) (omega arith) in
            let small : 1 + (rank roster (record_at roster p) * n + p) < 2 ^ 63 = omega arith in
            subst (λ (k : ℕ). k < 2 ^ 63)
            (sym (ap (λ (words : List ℕ). slice_index words 3)
            (record_part_is table form p o in_os in_rs)
            ∙ ap (λ (r : Record). stamp_word r.since) (record_is roster p known))) small;
      };
    }

pub form_fits : (table : Table) → IsLawful table → (pace : Pace) (s : Paced) → IsReached table s
    → FormFits pace table s
form_fits table lawful pace s reached = record {
  fits = fits pace table s reached;
  stored = stored pace table lawful s reached;
}
