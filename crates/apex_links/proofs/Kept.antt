-- The links stay right as a process is put into a list, or taken out of it.
use Rattle.std.proofs.Common.{◌≡◌, ◌≢◌, ℕ, ◌<◌, true, false, ◌||◌, List, [], ◌∷◌, ◌++◌, length, Option, None, Some, IfSome, inl, inr, refl, arith}
use Rattle.std.specs.Prelude.{if◌then◌else◌}
use Rattle.std.proofs.lemmas.Bool.{cases_eq, cases_Bool}
use Rattle.apex_machine.specs.processes.Running.{is_process}
use Rattle.apex_links.specs.declared.chains.Node.{Node}
use Rattle.apex_links.specs.declared.chains.Ends.{Ends}
use Rattle.apex_links.specs.Neighbours.{stands_in, IsDistinct, first_of, last_of, after_in, before_in}
use Rattle.apex_links.specs.Chains.{free, node_at, ends_at, spliced, respliced, AreLinked}
use Rattle.apex_links.proofs.Neighbours.{stands_in-append, last_in, first_stands, first_joined, last_joined, first_parted, last_parted, before_joined, after_joined, before_here, after_here, before_parted, after_parted}
use Rattle.apex_links.proofs.Splices.{length-spliced, spliced_here, spliced_other, respliced_here, respliced_other}

-- the lists are the same but for list l, in which n is between a front and a rest
pub record IsPut (lists others : ℕ → List ℕ) (l n : ℕ) (front rest : List ℕ) : Type 0 where
  pub without : lists l ≡ front ++ rest
  pub within : others l ≡ front ++ n ∷ rest
  pub kept : (m : ℕ) → m ≢ l → others m ≡ lists m

-- a list stays distinct if a process that is nowhere in it is put into it, and if one is taken out
-- of it
pub distinct_put : (n : ℕ) (front rest : List ℕ) → IsDistinct (front ++ rest) → stands_in n (front ++ rest) ≡ false → IsDistinct (front ++ n ∷ rest)
distinct_put n [] rest d out = (out, d)
distinct_put n (x ∷ xs) rest d out = (grind (arith, stands_in-append x xs (n ∷ rest), stands_in-append x xs rest, d.0, out), distinct_put n xs rest d.1 (grind (arith, out)))

pub distinct_taken : (n : ℕ) (front rest : List ℕ) → IsDistinct (front ++ n ∷ rest) → IsDistinct (front ++ rest)
distinct_taken n [] rest d = d.1
distinct_taken n (x ∷ xs) rest d = (grind (arith, stands_in-append x xs (n ∷ rest), stands_in-append x xs rest, d.0), distinct_taken n xs rest d.1)

-- a process that is taken out of a list is nowhere in the rest
pub taken_out : (n : ℕ) (front rest : List ℕ) → IsDistinct (front ++ n ∷ rest) → stands_in n (front ++ rest) ≡ false
taken_out n [] rest d = d.0
taken_out n (x ∷ xs) rest d = grind (arith, stands_in-append x xs (n ∷ rest), d.0, taken_out n xs rest d.1)

-- a process in a list with n in between is n, or was there before
pub stands_put : (p n : ℕ) (front rest : List ℕ) → p ≢ n → stands_in p (front ++ n ∷ rest) ≡ stands_in p (front ++ rest)
stands_put p n front rest apart = grind (arith, stands_in-append p front (n ∷ rest), stands_in-append p front rest, apart)

pub stands_here : (n : ℕ) (front rest : List ℕ) → stands_in n (front ++ n ∷ rest) ≡ true
stands_here n front rest = grind (arith, stands_in-append n front (n ∷ rest))

-- a property of the process that an option may be
if_some : (P : ℕ → Type 0) (o : Option ℕ) → ((p : ℕ) → is_process p o ≡ true → P p) → IfSome o P
if_some P None each = tt
if_some P (Some p) each = each p (grind arith)

-- a process in a front or in a rest is in list l
module _ (nodes : List Node) (ends : List Ends) (lists : ℕ → List ℕ) (l : ℕ) (front rest : List ℕ) (linked : AreLinked nodes ends lists)
    (parts : (p : ℕ) → (stands_in p front || stands_in p rest) ≡ true → stands_in p (lists l) ≡ true) where
  last_here : (p : ℕ) → is_process p (last_of front) ≡ true → stands_in p (lists l) ≡ true
  last_here p e = parts p (grind (arith, last_in p front e))

  first_here : (p : ℕ) → is_process p (first_of rest) ≡ true → stands_in p (lists l) ≡ true
  first_here p e = parts p (grind (arith, first_stands p rest e))

  pub last_known : IfSome (last_of front) (λ p. p < length nodes)
  last_known = if_some _ (last_of front) (λ p e. linked.known l p (last_here p e))

  pub first_known : IfSome (first_of rest) (λ p. p < length nodes)
  first_known = if_some _ (first_of rest) (λ p e. linked.known l p (first_here p e))

  label : (p : ℕ) → stands_in p (lists l) ≡ true → (node_at nodes p).list ≡ Some l
  label p stands = rw (linked.links l p stands) refl

  -- neither the last of the front nor the first of the rest has another list's number
  pub last_labelled : (p : ℕ) → (node_at nodes p).list ≢ Some l → is_process p (last_of front) ≡ false
  last_labelled p other = elim (cases_Bool (is_process p (last_of front))) [ inl e ↦ absurd (other (label p (last_here p e))) | inr e ↦ e ]

  pub first_labelled : (p : ℕ) → (node_at nodes p).list ≢ Some l → is_process p (first_of rest) ≡ false
  first_labelled p other = elim (cases_Bool (is_process p (first_of rest))) [ inl e ↦ absurd (other (label p (first_here p e))) | inr e ↦ e ]

-- a process that is not in two lists together is in neither of them
out_of_front : (n : ℕ) (front rest : List ℕ) → stands_in n (front ++ rest) ≡ false → stands_in n front ≡ false
out_of_front n front rest out = grind (arith, stands_in-append n front rest, out)

-- two lists that have a process in common are one
one_list : {nodes : List Node} {ends : List Ends} {lists : ℕ → List ℕ} → AreLinked nodes ends lists
    → (l m p : ℕ) → stands_in p (lists l) ≡ true → stands_in p (lists m) ≡ true → m ≡ l
one_list linked l m p here there = grind (arith, linked.links l p here, linked.links m p there)

-- a process that is in no list is put in between
module _ (nodes : List Node) (ends : List Ends) (lists others : ℕ → List ℕ) (l n : ℕ) (front rest : List ℕ)
    (put : IsPut lists others l n front rest) (known : n < length nodes) (bound : l < length ends)
    (linked : AreLinked nodes ends lists) (out : (m : ℕ) → stands_in n (lists m) ≡ false) where
  abbrev node : Node
  node = record { list = Some l; before = last_of front; after = first_of rest }

  abbrev after_link : List Node
  after_link = spliced nodes n node (last_of front) (first_of rest) (Some n) (Some n)

  parts : (p : ℕ) → (stands_in p front || stands_in p rest) ≡ true → stands_in p (lists l) ≡ true
  parts p stands = rw (put.without, stands_in-append p front rest) stands

  n_out : stands_in n (front ++ rest) ≡ false
  n_out = rw (← put.without) (out l)

  n_node : node_at after_link n ≡ node
  n_node = spliced_here nodes n node (last_of front) (first_of rest) (Some n) (Some n) known

  other_node : (p : ℕ) → p ≢ n → node_at after_link p ≡ record {
    list = (node_at nodes p).list;
    before = if is_process p (first_of rest) then Some n else (node_at nodes p).before;
    after = if is_process p (last_of front) then Some n else (node_at nodes p).after;
  }
  other_node p apart = spliced_other nodes n node (last_of front) (first_of rest) (Some n) (Some n) p apart
      (last_known nodes ends lists l front rest linked parts) (first_known nodes ends lists l front rest linked parts)

  links_n : node_at after_link n ≡ record { list = Some l; before = before_in n (others l); after = after_in n (others l) }
  links_n =
      let gone = out_of_front n front rest n_out in
      rw (n_node, put.within, before_here n None front rest gone, after_here n front rest gone) refl

  links_p : (p : ℕ) → p ≢ n → stands_in p (others l) ≡ true → node_at after_link p ≡ record { list = Some l; before = before_in p (others l); after = after_in p (others l) }
  links_p p apart stands =
      let distinct = rw put.without at (linked.distinct l) in
      let before : stands_in p (lists l) ≡ true = rw put.without (rw (put.within, stands_put p n front rest apart) at stands) in
      let was = rw put.without at (linked.links l p before) in
      rw (other_node p apart, was, put.within, before_joined n p apart None front rest distinct, after_joined n p apart None front rest refl distinct) refl

  links_m : (m p : ℕ) → m ≢ l → stands_in p (others m) ≡ true → node_at after_link p ≡ record { list = Some m; before = before_in p (others m); after = after_in p (others m) }
  links_m m p apart stands =
      let before : stands_in p (lists m) ≡ true = rw (put.kept m apart) at stands in
      let was = linked.links m p before in
      let other : p ≢ n = λ e. grind (arith, e, before, out m) in
      let label : (node_at nodes p).list ≢ Some l = λ e. grind (arith, e, was, apart) in
      rw (other_node p other, first_labelled nodes ends lists l front rest linked parts p label, last_labelled nodes ends lists l front rest linked parts p label, was, put.kept m apart) refl

  known_p : (m p : ℕ) → stands_in p (others m) ≡ true → p < length nodes
  known_p m p stands = elim (cases_eq p n) [
    | inl e ↦ rw e known
    | inr apart ↦ elim (cases_eq m l) [
      | inl f ↦ linked.known l p (rw put.without (rw (f, put.within, stands_put p n front rest apart) at stands))
      | inr differs ↦ linked.known m p (rw (put.kept m differs) at stands)
    ]
  ]

  members_p : (m p : ℕ) → (node_at after_link p).list ≡ Some m → stands_in p (others m) ≡ true
  members_p m p is = elim (cases_eq p n) [
    | inl e ↦
        let f = rw (e, n_node) at is in
        let same : l ≡ m = grind (arith, f) in
        rw (e, ← same, put.within) (stands_here n front rest)
    | inr apart ↦
        let there = linked.members m p (rw (other_node p apart) at is) in
        elim (cases_eq m l) [
          | inl f ↦ rw (f, put.within, stands_put p n front rest apart) (rw (f, put.without) at there)
          | inr differs ↦ rw (put.kept m differs) there
        ]
  ]

  bare_p : (p : ℕ) → (node_at after_link p).list ≡ None → node_at after_link p ≡ free
  bare_p p is = elim (cases_eq p n) [
    | inl e ↦ absurd (grind (arith, rw (e, n_node) at is))
    | inr apart ↦
        let was = rw (other_node p apart) at is in
        let label : (node_at nodes p).list ≢ Some l = λ e. grind (arith, e, was) in
        rw (other_node p apart, first_labelled nodes ends lists l front rest linked parts p label, last_labelled nodes ends lists l front rest linked parts p label, linked.bare p was) refl
  ]

  edges_m : (m : ℕ) → ends_at (respliced ends l (last_of front) (first_of rest) (Some n) (Some n)) m ≡ record { first = first_of (others m); last = last_of (others m) }
  edges_m m = elim (cases_eq m l) [
    | inl e ↦
        let was = rw put.without at (linked.edges l) in
        rw (e, respliced_here ends l (last_of front) (first_of rest) (Some n) (Some n) bound, was, put.within, first_joined n front rest, last_joined n None front rest) refl
    | inr differs ↦ rw (respliced_other ends l (last_of front) (first_of rest) (Some n) (Some n) m differs, put.kept m differs) (linked.edges m)
  ]

  distinct_m : (m : ℕ) → IsDistinct (others m)
  distinct_m m = elim (cases_eq m l) [
    | inl e ↦ rw (e, put.within) (distinct_put n front rest (rw put.without at (linked.distinct l)) n_out)
    | inr differs ↦ rw (put.kept m differs) (linked.distinct m)
  ]

  pub link_keeps : AreLinked after_link (respliced ends l (last_of front) (first_of rest) (Some n) (Some n)) others
  link_keeps = record {
    known = λ m p stands. rw (length-spliced nodes n node (last_of front) (first_of rest) (Some n) (Some n)) (known_p m p stands);
    links = λ m p stands. elim (cases_eq m l) [
      | inl e ↦ elim (cases_eq p n) [
        | inl f ↦ rw (e, f) links_n
        | inr apart ↦ rw e (links_p p apart (rw e at stands))
      ]
      | inr apart ↦ links_m m p apart stands
    ];
    members = members_p;
    bare = bare_p;
    edges = edges_m;
    distinct = distinct_m;
  }

-- a process that is in between is taken out
module _ (nodes : List Node) (ends : List Ends) (lists others : ℕ → List ℕ) (l n : ℕ) (front rest : List ℕ)
    (put : IsPut others lists l n front rest) (known : n < length nodes) (bound : l < length ends)
    (linked : AreLinked nodes ends lists) where
  abbrev after_unlink : List Node
  after_unlink = spliced nodes n free (last_of front) (first_of rest) (first_of rest) (last_of front)

  gone : (p : ℕ) → (stands_in p front || stands_in p rest) ≡ true → stands_in p (lists l) ≡ true
  gone p stands = rw put.within (grind (arith, stands_in-append p front (n ∷ rest), stands))

  was_distinct : IsDistinct (front ++ n ∷ rest)
  was_distinct = rw put.within at (linked.distinct l)

  was_here : stands_in n (lists l) ≡ true
  was_here = rw put.within (stands_here n front rest)

  n_free : node_at after_unlink n ≡ free
  n_free = spliced_here nodes n free (last_of front) (first_of rest) (first_of rest) (last_of front) known

  left_node : (p : ℕ) → p ≢ n → node_at after_unlink p ≡ record {
    list = (node_at nodes p).list;
    before = if is_process p (first_of rest) then last_of front else (node_at nodes p).before;
    after = if is_process p (last_of front) then first_of rest else (node_at nodes p).after;
  }
  left_node p apart = spliced_other nodes n free (last_of front) (first_of rest) (first_of rest) (last_of front) p apart
      (last_known nodes ends lists l front rest linked gone) (first_known nodes ends lists l front rest linked gone)

  -- a process that is in a list now is not n, and was there before
  stood : (m p : ℕ) → stands_in p (others m) ≡ true → (p ≢ n) × (stands_in p (lists m) ≡ true)
  stood m p stands = elim (cases_eq m l) [
    | inl e ↦
        let here : stands_in p (front ++ rest) ≡ true = rw (e, put.without) at stands in
        let apart : p ≢ n = λ f. grind (arith, rw f at here, taken_out n front rest was_distinct) in
        (apart, rw (e, put.within, stands_put p n front rest apart) here)
    | inr differs ↦
        let here : stands_in p (lists m) ≡ true = rw (put.kept m differs) stands in
        (λ f. absurd (differs (one_list linked l m n was_here (rw f at here))), here)
  ]

  left_l : (p : ℕ) → p ≢ n → stands_in p (lists l) ≡ true → node_at after_unlink p ≡ record { list = Some l; before = before_in p (others l); after = after_in p (others l) }
  left_l p apart stands =
      let was = rw put.within at (linked.links l p stands) in
      let d = distinct_taken n front rest was_distinct in
      rw (left_node p apart, was, put.without, before_parted n p apart front rest d, after_parted n p apart front rest d) refl

  left_m : (m p : ℕ) → m ≢ l → p ≢ n → stands_in p (lists m) ≡ true → node_at after_unlink p ≡ record { list = Some m; before = before_in p (lists m); after = after_in p (lists m) }
  left_m m p differs apart stands =
      let was = linked.links m p stands in
      let label : (node_at nodes p).list ≢ Some l = λ e. grind (arith, e, was, differs) in
      rw (left_node p apart, first_labelled nodes ends lists l front rest linked gone p label, last_labelled nodes ends lists l front rest linked gone p label, was) refl

  left_members : (m p : ℕ) → (node_at after_unlink p).list ≡ Some m → stands_in p (others m) ≡ true
  left_members m p is = elim (cases_eq p n) [
    | inl e ↦ absurd (grind (arith, rw (e, n_free) at is))
    | inr apart ↦
        let there = linked.members m p (rw (left_node p apart) at is) in
        elim (cases_eq m l) [
          | inl f ↦ rw (f, put.without) (rw (f, put.within, stands_put p n front rest apart) at there)
          | inr differs ↦ rw (put.kept m differs) at there
        ]
  ]

  left_bare : (p : ℕ) → (node_at after_unlink p).list ≡ None → node_at after_unlink p ≡ free
  left_bare p is = elim (cases_eq p n) [
    | inl e ↦ rw e n_free
    | inr apart ↦
        let was = rw (left_node p apart) at is in
        let label : (node_at nodes p).list ≢ Some l = λ e. grind (arith, e, was) in
        rw (left_node p apart, first_labelled nodes ends lists l front rest linked gone p label, last_labelled nodes ends lists l front rest linked gone p label, linked.bare p was) refl
  ]

  left_edges : (m : ℕ) → ends_at (respliced ends l (last_of front) (first_of rest) (first_of rest) (last_of front)) m ≡ record { first = first_of (others m); last = last_of (others m) }
  left_edges m = elim (cases_eq m l) [
    | inl e ↦
        let was = rw put.within at (linked.edges l) in
        rw (e, respliced_here ends l (last_of front) (first_of rest) (first_of rest) (last_of front) bound, was, put.without, first_parted n front rest, last_parted n None front rest) refl
    | inr differs ↦ rw (respliced_other ends l (last_of front) (first_of rest) (first_of rest) (last_of front) m differs, ← put.kept m differs) (linked.edges m)
  ]

  pub unlink_keeps : AreLinked after_unlink (respliced ends l (last_of front) (first_of rest) (first_of rest) (last_of front)) others
  unlink_keeps = record {
    known = λ m p stands. rw (length-spliced nodes n free (last_of front) (first_of rest) (first_of rest) (last_of front)) (linked.known m p (stood m p stands).1);
    links = λ m p stands.
        let before = stood m p stands in
        elim (cases_eq m l) [
          | inl e ↦ rw e (left_l p before.0 (rw e at before.1))
          | inr differs ↦ rw (← put.kept m differs) (left_m m p differs before.0 before.1)
        ];
    members = left_members;
    bare = left_bare;
    edges = left_edges;
    distinct = λ m. elim (cases_eq m l) [
      | inl e ↦ rw (e, put.without) (distinct_taken n front rest was_distinct)
      | inr differs ↦ rw (← put.kept m differs) (linked.distinct m)
    ];
  }
