-- The lists that each call leaves.
use Rattle.std.proofs.Common.{◌≡◌, ◌≢◌, ℕ, ◌+◌, ◌<◌, Bool, true, false, ◌||◌, List, [], ◌∷◌, ◌++◌, length, map, set, get_or, slice_get, replicate, Option, None, Some, IfSome, inl, inr, refl, ap, sym, subst, ◌∙◌, arith}
use Rattle.std.proofs.lemmas.Bool.{cases_Bool}
use Rattle.std.proofs.lemmas.Grind.{get_or-set_at}
use Rattle.std.proofs.lemmas.List.{append-nil, get_or-set_other, length-map, length-replicate, length-set}
use Rattle.std.proofs.lemmas.Option.{same_Some}
use Rattle.apex_links.specs.declared.chains.Node.{Node}
use Rattle.apex_links.specs.declared.chains.Ends.{Ends}
use Rattle.apex_links.specs.Neighbours.{stands_in, first_of, last_of}
use Rattle.apex_links.specs.Links.{Links, pushed_back, pushed_front, removed, inserted_before, without, put_before, IsFree, IsOnlyIn, IsSound}
use Rattle.apex_links.specs.Chains.{free, no_ends, node_at, ends_at, lists_of, links_of, spliced, respliced, AreLinked, IsLinked}
use Rattle.apex_links.proofs.Neighbours.{stands_in-append, before_here, after_here}
use Rattle.apex_links.proofs.Splices.{length-spliced, length-respliced}
use Rattle.apex_links.proofs.Kept.{IsPut, last_known, first_known, link_keeps, unlink_keeps}
use Rattle.apex_links.proofs.Places.{HasParts, parts, without_parts, without_out, put_parts, put_out, at_map, map_same, at_stands, after_at, known_list, without_gone, same_all}
use Rattle.apex_links.proofs.Walks.{lists_are, short_list}

-- the nodes and the ends are linked, and a contract sees these lists
pub record Shows (nodes : List Node) (ends : List Ends) (links : Links) : Type 0 where
  pub linked : IsLinked nodes ends
  pub seen : links_of nodes ends ≡ links

pub shown : (nodes : List Node) (ends : List Ends) (many : ℕ) (lists : List (List ℕ)) → length nodes ≡ many → length lists ≡ length ends
    → AreLinked nodes ends (λ l. get_or lists l []) → Shows nodes ends (record { processes = many; lists = lists })
shown nodes ends many lists all long linked =
    let e = lists_are nodes ends lists long linked in
    record { linked = rw e linked; seen = rw (e, all) refl }

-- a process in no list of a set is in none of an equal one
pub free_then : {links other : Links} (n : ℕ) → links ≡ other → IsFree other n → IsFree links n
free_then n e out = subst (λ (some : Links). IsFree some n) (sym e) out

just : (b : Bool) → (b || false) ≡ true → b ≡ true
just true e = refl
just false e = e

-- the nodes and the ends are linked
module _ (nodes : List Node) (ends : List Ends) (linked : IsLinked nodes ends) where
  abbrev lists : List (List ℕ)
  lists = lists_of nodes ends

  abbrev at : ℕ → List ℕ
  at l = get_or lists l []

  long : length lists ≡ length ends
  long = length-map ends _

  -- the node of a process in a list with a front and a rest
  standing : (p l : ℕ) → stands_in p (at l) ≡ true → (there : HasParts p (at l)) → node_at nodes p ≡ record { list = Some l; before = last_of there.front; after = first_of there.rest }
  standing p l stands there =
      let node = linked.links l p stands in
      rw (node, there.whole, before_here p None there.front there.rest there.first, after_here p there.front there.rest there.first) refl

  -- a process in one list is in no other
  nowhere : (p l m : ℕ) → (node_at nodes p).list ≡ Some l → m ≢ l → stands_in p (at m) ≡ false
  nowhere p l m is differs = elim (cases_Bool (stands_in p (at m))) [
    | inl e ↦ absurd (differs (same_Some m l (rw (linked.links m p e) at is)))
    | inr e ↦ e
  ]

  -- a process in a list is in that one alone
  pub only_in : (p l : ℕ) → (node_at nodes p).list ≡ Some l → IsOnlyIn (links_of nodes ends) p l
  only_in p l is = record {
    known = known_list lists l p (linked.members l p is);
    here = linked.members l p is;
    alone = λ m stands. same_Some m l (rw (linked.links m p stands) at is);
  }

  beside : (p l : ℕ) (there : HasParts p (at l)) → (q : ℕ) → (stands_in q there.front || stands_in q there.rest) ≡ true → stands_in q (at l) ≡ true
  beside p l there q stands = rw there.whole (grind (arith, stands_in-append q there.front (p ∷ there.rest), stands))

  -- the list and the neighbours of a process in a list are known
  pub known_bound : (p l : ℕ) → (node_at nodes p).list ≡ Some l → l < length ends
  known_bound p l is = omega (arith, long, known_list lists l p (linked.members l p is))

  pub known_before : (p l : ℕ) → (node_at nodes p).list ≡ Some l → IfSome (node_at nodes p).before (λ q. q < length nodes)
  known_before p l is =
      let stands = linked.members l p is in
      let there = parts p (at l) stands in
      rw (standing p l stands there) (last_known nodes ends at l there.front there.rest linked (beside p l there))

  pub known_after : (p l : ℕ) → (node_at nodes p).list ≡ Some l → IfSome (node_at nodes p).after (λ q. q < length nodes)
  known_after p l is =
      let stands = linked.members l p is in
      let there = parts p (at l) stands in
      rw (standing p l stands there) (first_known nodes ends at l there.front there.rest linked (beside p l there))

  -- the first and the last of each list are known
  pub known_first : (l : ℕ) → IfSome (ends_at ends l).first (λ q. q < length nodes)
  known_first l = rw (linked.edges l) (first_known nodes ends at l [] (at l) linked (λ p stands. stands))

  pub known_last : (l : ℕ) → IfSome (ends_at ends l).last (λ q. q < length nodes)
  known_last l = rw (linked.edges l) (last_known nodes ends at l (at l) [] linked (λ p stands. just _ stands))

  module _ (n : ℕ) (known : n < length nodes) (out : IsFree (links_of nodes ends) n) (news : List Node) (newends : List Ends) where
    -- a process that is in no list is put into one
    put_shows : (l : ℕ) (front rest : List ℕ) (others : List (List ℕ)) → l < length lists → length others ≡ length lists
        → IsPut at (λ m. get_or others m []) l n front rest
        → news ≡ spliced nodes n (record { list = Some l; before = last_of front; after = first_of rest }) (last_of front) (first_of rest) (Some n) (Some n)
        → newends ≡ respliced ends l (last_of front) (first_of rest) (Some n) (Some n)
        → Shows news newends (record { processes = length nodes; lists = others })
    put_shows l front rest others inside many put are were =
        let bound : l < length ends = omega (arith, inside, long) in
        let all = length-spliced nodes n (record { list = Some l; before = last_of front; after = first_of rest }) (last_of front) (first_of rest) (Some n) (Some n) in
        let as_many = length-respliced ends l (last_of front) (first_of rest) (Some n) (Some n) in
        rw (are, were) (shown _ _ (length nodes) others all (many ∙ long ∙ sym as_many) (link_keeps nodes ends at _ l n front rest put known bound linked out))

    -- a list that is set is put
    put_set : (l : ℕ) (front rest : List ℕ) → l < length lists → at l ≡ front ++ rest → IsPut at (λ m. get_or (set lists l (front ++ n ∷ rest)) m []) l n front rest
    put_set l front rest inside whole = record {
      without = whole;
      within = get_or-set_at lists l l (front ++ n ∷ rest) [] refl inside;
      kept = λ m differs. get_or-set_other lists l m (front ++ n ∷ rest) [] differs;
    }

    pub push_back_shows : (l : ℕ) → l < length lists
        → news ≡ spliced nodes n (record { list = Some l; before = (ends_at ends l).last; after = None }) (ends_at ends l).last None (Some n) (Some n)
        → newends ≡ respliced ends l (ends_at ends l).last None (Some n) (Some n)
        → Shows news newends (pushed_back (links_of nodes ends) l n)
    push_back_shows l inside are were =
        let put = put_set l (at l) [] inside (sym (append-nil (at l))) in
        let last : (ends_at ends l).last ≡ last_of (at l) = rw (linked.edges l) refl in
        put_shows l (at l) [] _ inside (length-set lists l _) put (rw last at are) (rw last at were)

    pub push_front_shows : (l : ℕ) → l < length lists
        → news ≡ spliced nodes n (record { list = Some l; before = None; after = (ends_at ends l).first }) None (ends_at ends l).first (Some n) (Some n)
        → newends ≡ respliced ends l None (ends_at ends l).first (Some n) (Some n)
        → Shows news newends (pushed_front (links_of nodes ends) l n)
    push_front_shows l inside are were =
        let put = put_set l [] (at l) inside refl in
        let first : (ends_at ends l).first ≡ first_of (at l) = rw (linked.edges l) refl in
        put_shows l [] (at l) _ inside (length-set lists l _) put (rw first at are) (rw first at were)

    pub insert_shows : (other l : ℕ) → (node_at nodes other).list ≡ Some l
        → news ≡ spliced nodes n (record (node_at nodes other) { after = Some other }) (node_at nodes other).before (Some other) (Some n) (Some n)
        → newends ≡ respliced ends l (node_at nodes other).before (Some other) (Some n) (Some n)
        → Shows news newends (inserted_before (links_of nodes ends) other n)
    insert_shows other l is are were =
        let stands = linked.members l other is in
        let there = parts other (at l) stands in
        let node = standing other l stands there in
        let put = put_before_is other l is there in
        put_shows l there.front (other ∷ there.rest) _ (known_list lists l other stands) (length-map lists _) put (rw node at are) (rw node at were) where
          put_before_is : (other l : ℕ) → (node_at nodes other).list ≡ Some l → (there : HasParts other (at l))
              → IsPut at (λ m. get_or (map (put_before other n) lists) m []) l n there.front (other ∷ there.rest)
          put_before_is other l is there = record {
            without = there.whole;
            within = rw (at_map (put_before other n) refl lists l, there.whole) (put_parts other n there.front there.rest there.first);
            kept = λ m differs. rw (at_map (put_before other n) refl lists m) (put_out other n (at m) (nowhere other l m is differs));
          }

  -- a process is taken out of its list
  pub remove_shows : (n l : ℕ) → (node_at nodes n).list ≡ Some l → (news : List Node) (newends : List Ends)
      → news ≡ spliced nodes n free (node_at nodes n).before (node_at nodes n).after (node_at nodes n).after (node_at nodes n).before
      → newends ≡ respliced ends l (node_at nodes n).before (node_at nodes n).after (node_at nodes n).after (node_at nodes n).before
      → Shows news newends (removed (links_of nodes ends) n)
  remove_shows n l is news newends are were =
      let stands = linked.members l n is in
      let there = parts n (at l) stands in
      let node = standing n l stands there in
      let all = length-spliced nodes n free (last_of there.front) (first_of there.rest) (first_of there.rest) (last_of there.front) in
      let as_many = length-respliced ends l (last_of there.front) (first_of there.rest) (first_of there.rest) (last_of there.front) in
      rw (rw node at are, rw node at were) (shown _ _ (length nodes) (map (without n) lists) all (length-map lists _ ∙ long ∙ sym as_many)
      (unlink_keeps nodes ends at _ l n there.front there.rest (without_is n l is there) (linked.known l n stands) (known_bound n l is) linked)) where
        without_is : (n l : ℕ) → (node_at nodes n).list ≡ Some l → (there : HasParts n (at l))
            → IsPut (λ m. get_or (map (without n) lists) m []) at l n there.front there.rest
        without_is n l is there = record {
          without = rw (at_map (without n) refl lists l, there.whole) (without_parts n there.front there.rest there.first);
          within = there.whole;
          kept = λ m differs. rw (at_map (without n) refl lists m, without_out n (at m) (nowhere n l m is differs)) refl;
        }

  pub removed_out : (n : ℕ) → IsFree (removed (links_of nodes ends) n) n
  removed_out n l = rw (at_map (without n) refl lists l) (without_gone n (at l) (linked.distinct l))

  -- nothing changes for a process that is in no list
  not_listed : (n : ℕ) → (node_at nodes n).list ≡ None → (l : ℕ) → stands_in n (at l) ≡ false
  not_listed n is l = elim (cases_Bool (stands_in n (at l))) [
    | inl e ↦ absurd (grind (arith, rw (linked.links l n e) at is))
    | inr e ↦ e
  ]

  pub removed_free : (n : ℕ) → (node_at nodes n).list ≡ None → links_of nodes ends ≡ removed (links_of nodes ends) n
  removed_free n is = ap (λ (ls : List (List ℕ)). record { processes = length nodes; lists = ls })
      (sym (map_same (without n) refl lists (λ l. without_out n (at l) (not_listed n is l))))

  pub inserted_free : (other n : ℕ) → (node_at nodes other).list ≡ None → links_of nodes ends ≡ inserted_before (links_of nodes ends) other n
  inserted_free other n is = ap (λ (ls : List (List ℕ)). record { processes = length nodes; lists = ls })
      (sym (map_same (put_before other n) refl lists (λ l. put_out other n (at l) (not_listed other is l))))

  -- a process that is in no list has no list's number, and no process behind it
  pub next_free : (n : ℕ) → IsFree (links_of nodes ends) n → (node_at nodes n).after ≡ None
  next_free n out = bare_after (node_at nodes n).list refl where
    bare_after : (list : Option ℕ) → (node_at nodes n).list ≡ list → (node_at nodes n).after ≡ None
    bare_after None is = rw (linked.bare n is) refl
    bare_after (Some l) is = absurd (grind (arith, linked.members l n is, out l))

  pub next_at : (n l k : ℕ) → slice_get (at l) k ≡ Some n → (node_at nodes n).after ≡ slice_get (at l) (k + 1)
  next_at n l k there = rw (linked.links l n (at_stands n (at l) k there)) (after_at n (at l) k (linked.distinct l) there)

  pub sound : IsSound (links_of nodes ends)
  sound = record {
    known = linked.known;
    distinct = linked.distinct;
    apart = λ l m p here there. same_Some l m (ap (λ (n : Node). n.list) (sym (linked.links l p here) ∙ linked.links m p there));
    short = λ l. short_list (at l) (length nodes) (linked.distinct l) (linked.known l);
  }

-- the lists of a new set are empty
pub new_shows : (processes lists : ℕ) (nodes : List Node) (ends : List Ends) → nodes ≡ replicate processes free → ends ≡ replicate lists no_ends
    → Shows nodes ends (record { processes = processes; lists = replicate lists [] })
new_shows processes lists nodes ends are were =
    rw (are, were) (shown _ _ processes (replicate lists []) (length-replicate processes free) (length-replicate lists [] ∙ sym (length-replicate lists no_ends)) linked) where
      empty : (l : ℕ) → get_or (replicate {A = List ℕ} lists []) l [] ≡ []
      empty l = same_all [] lists l

      linked : AreLinked (replicate processes free) (replicate lists no_ends) (λ l. get_or (replicate lists []) l [])
      linked = record {
        known = λ l p stands. absurd (grind (arith, rw (empty l) at stands));
        links = λ l p stands. absurd (grind (arith, rw (empty l) at stands));
        members = λ l p is. absurd (grind (arith, rw (same_all free processes p) at is));
        bare = λ p _. same_all free processes p;
        edges = λ l. rw (empty l) (same_all no_ends lists l);
        distinct = λ l. rw (empty l) tt;
      }
