-- Rows and headings end above the key, and labels end left of the columns.
use Rattle.std.proofs.Common.{◌≡◌, ◌∙◌, ℕ, zero, suc, ◌+◌, ◌*◌, ◌<◌, ◌≤◌, ◌==◌, ◌++◌, Bool, true, false, cond, if◌then◌else◌, List, [], ◌∷◌, Option, None, Some, inl, inr, ap, arith, count_by, get_or, length, nat_lt, refl, subst, sym, take}
use Rattle.std.proofs.lemmas.Bool.{cases_lt}
use Rattle.std.proofs.lemmas.List.{get_or_past}
use Rattle.std.proofs.lemmas.List.Sums.{count_by_more_yes, sum_by-append, sum_by-take-le}
use Rattle.std.proofs.lemmas.Fmt.{length-decimal-le}
use Rattle.apex_machine.proofs.BothProfiles.{few_processes}
use Rattle.apex_machine.specs.text.Texts.{id_text, process_name}
use Rattle.apex_machine.specs.table.Table.{Table, IsLawful, call_in}
use Rattle.apex_types.specs.declared.calls.Call.{Call}
use Rattle.apex_types.specs.declared.calls.Call.TheVariants.{Process}
use Rattle.apex_types.specs.declared.calls.ObjectCall.TheVariants.{KindService}
use Rattle.apex_types.specs.declared.calls.ProcessService.TheVariants.{InitializeCoreAffinity}
use Rattle.apex_types.specs.declared.limits.TheConstants.{MOST_INIT_STEPS}
use Rattle.apex_moments.proofs.Places.{length_of, place_of}
use Rattle.apex_moments.specs.Places.{of_places}
use Rattle.apex_pictures.specs.Rows.{HasRows, bound_core, core_after, core_by, core_of, cores_of, heading_at, headings_at, is_chosen, many_chosen, row_at, rows_at, rows_before, rows_chosen, rows_of_core}
use Rattle.apex_pictures.specs.Svg.{label_letters}
use Rattle.apex_pictures.specs.declared.rows.Rows.{Rows}
use Rattle.apex_pictures.specs.declared.rows.TheConstants.{NO_CORE, ROW}

core_by_within : (table : Table) (p : ℕ) (call : Option Call) (other : ℕ) → other < table.cores
    → core_by table p call other < table.cores
core_by_within table p (Some (Process (KindService bound (InitializeCoreAffinity core)))) other within = grind (arith, within)
core_by_within table p _ other within = within

core_within : (table : Table) (p n : ℕ) → 0 < table.cores → core_after table p n < table.cores
core_within table p zero some = some
core_within table p (suc n) some =
    core_by_within table p (call_in table.init n) (core_after table p n) (core_within table p n some)

bound_within : (table : Table) (p : ℕ) → 0 < table.cores → bound_core table p < table.cores
unfolding bound_core
bound_within table p some = core_within table p MOST_INIT_STEPS some

-- a place counts at most once below a core or at it, and only if it is chosen
one_counts : (v core : ℕ) (chosen : Bool) → (chosen ≡ false → core < v)
    → cond (nat_lt v core) 1 0 + cond (v == core) 1 0 ≤ cond chosen 1 0
one_counts v core true others = grind arith
one_counts v core false others = grind (arith, others refl)

many_count : (f : ℕ → ℕ) (g : ℕ → Bool) (core n : ℕ) → ((p : ℕ) → g p ≡ false → core < f p)
    → rows_before (of_places f n) core + rows_of_core (of_places f n) core ≤ many_chosen (of_places g n)
many_count f g core zero others = omega arith
many_count f g core (suc n) others =
    omega (
      arith,
      many_count f g core n others,
      one_counts (f n) core (g n) (others n),
      sum_by-append (λ (v : ℕ). cond (nat_lt v core) 1 0) (of_places f n) (f n ∷ []),
      sum_by-append (λ (v : ℕ). cond (v == core) 1 0) (of_places f n) (f n ∷ []),
      sum_by-append (λ (b : Bool). cond b 1 0) (of_places g n) (g n ∷ []),
    )

-- the rows of a core before one of its rows are fewer than all of its rows
before_counts : (cores : List ℕ) (p core : ℕ) → p < length cores → get_or cores p 0 ≡ core
    → rows_of_core (take p cores) core + 1 ≤ rows_of_core cores core
before_counts cores p core within is =
    omega (
      arith,
      count_by_more_yes (λ (v : ℕ). v == core) cores p 0 within (grind (arith, is)),
      sum_by-take-le (λ (v : ℕ). cond (v == core) 1 0) cores (p + 1),
    )

-- the processes without a row have the number of no core
others_without : (table : Table) (only : Option (List ℕ)) (core : ℕ) → core < NO_CORE → (p : ℕ) → is_chosen only p ≡ false
    → core < core_of table only p
others_without table only core within p not_chosen = rw not_chosen within

core_chosen : (table : Table) (only : Option (List ℕ)) (p : ℕ) → is_chosen only p ≡ true → core_of table only p ≡ bound_core table p
core_chosen table only p chosen = rw chosen refl

times_more : (a b : ℕ) → a ≤ b → ROW * a ≤ ROW * b
times_more a b order = omega (arith, order)

chosen_within : (table : Table) (only : Option (List ℕ)) (p : ℕ) → get_or (rows_chosen table only) p false ≡ true
    → p < length table.processes
chosen_within table only p has = elim (cases_lt p (length table.processes)) [
  | inl within ↦ within
  | inr past ↦
      let none = get_or_past (rows_chosen table only) p false (rw (length_of (is_chosen only) (length table.processes)) past) in
      absurd (grind (arith, has, none))
]

module _ (table : Table) (only : Option (List ℕ)) (rows : Rows) (lawful : IsLawful table) (has : HasRows table only rows) where
  abbrev cores : List ℕ
  cores = cores_of table only

  -- the number of rows and headings
  abbrev lines : ℕ
  lines = many_chosen rows.chosen.items + length rows.headings.items

  headings_many : length rows.headings.items ≡ table.cores
  headings_many = ap length has.headings ∙ length_of (heading_at cores rows.top) table.cores

  counted : (core : ℕ) → core < table.cores → rows_before cores core + rows_of_core cores core ≤ many_chosen rows.chosen.items
  counted core within =
      rw has.chosen (many_count (core_of table only) (is_chosen only) core (length table.processes)
      (others_without table only core (omega (arith, within, lawful.cores.1))))

  pub rows_end : (p : ℕ) → get_or rows.chosen.items p false ≡ true
      → get_or rows.places.items p 0 + ROW ≤ rows.top + ROW * lines
  rows_end p shown =
      let is_shown : get_or (rows_chosen table only) p false ≡ true = rw has.chosen at shown in
      let within = chosen_within table only p is_shown in
      let chosen : is_chosen only p ≡ true =
      sym (place_of (is_chosen only) (length table.processes) p false within) ∙ is_shown in
      let many : length cores ≡ length table.processes = length_of (core_of table only) (length table.processes) in
      let core : get_or cores p 0 ≡ bound_core table p =
      place_of (core_of table only) (length table.processes) p 0 within ∙ core_chosen table only p chosen in
      let place : get_or rows.places.items p 0 ≡ row_at cores rows.top p =
      ap (λ (l : List ℕ). get_or l p 0) has.places
      ∙ place_of (row_at cores rows.top) (length cores) p 0 (rw many within) in
      let bound = bound_within table p (omega (arith, lawful.cores.0)) in
      let above = rows_before cores (bound_core table p) + rows_of_core (take p cores) (bound_core table p) in
      let few = counted (bound_core table p) bound in
      let fewer = before_counts cores p (bound_core table p) (rw many within) core in
      let at : row_at cores rows.top p ≡ rows.top + ROW * (above + bound_core table p + 1) = rw core refl in
      omega (
        arith,
        place,
        at,
        headings_many,
        times_more (above + bound_core table p + 2) lines (omega (arith, few, fewer, bound, headings_many)),
      )

  pub headings_end : (core : ℕ) → core < length rows.headings.items
      → get_or rows.headings.items core 0 + ROW ≤ rows.top + ROW * lines
  headings_end core known =
      let within : core < table.cores = omega (arith, known, headings_many) in
      let place : get_or rows.headings.items core 0 ≡ heading_at cores rows.top core =
      ap (λ (l : List ℕ). get_or l core 0) has.headings
      ∙ place_of (heading_at cores rows.top) table.cores core 0 within in
      omega (
        arith,
        place,
        times_more (rows_before cores core + core + 1) lines
            (omega (arith, counted core within, within, headings_many)),
      )

  -- the label of a row is its name, a blank and two digits at the most
  pub labels_end : (longest : ℕ) → ((p : ℕ) → p < length table.processes → length (process_name table p) ≤ longest)
      → (p : ℕ) → get_or rows.chosen.items p false ≡ true → label_letters table p ≤ longest + 3
  labels_end longest names p shown =
      let within = chosen_within table only p (rw has.chosen at shown) in
      let few : p + 1 < 100 = omega (arith, within, lawful.process_count.1, few_processes table.profile) in
      let digits : length (id_text p) ≤ 2 = length-decimal-le 2 (p + 1) (omega arith) few (omega (arith, few)) in
      omega (arith, digits, names p within)
