-- Linked lists in memory: a node for each process, with its list and its neighbours there, and the
-- two ends of each list.
use Rattle.std.specs.Prelude.{◌≡◌, ℕ, zero, suc, ◌<◌, true, List, [], ◌∷◌, map, length, slice_index_or, slice_set, Option, None, Some, is_none, IfSome, if◌then◌else◌}
use Rattle.apex_links.specs.declared.chains.Node.{Node}
use Rattle.apex_links.specs.declared.chains.Ends.{Ends}
use Rattle.apex_links.specs.Links.{Links}
use Rattle.apex_links.specs.Neighbours.{stands_in, IsDistinct, first_of, last_of, after_in, before_in}

-- the node of a process that is in no list
abbrev pub free : Node
free = record { list = None; before = None; after = None }

-- the node of process p
abbrev pub node_at : List Node → ℕ → Node
node_at nodes p = slice_index_or nodes p free

-- the ends of an empty list
abbrev pub no_ends : Ends
no_ends = record { first = None; last = None }

-- the ends of list l
abbrev pub ends_at : List Ends → ℕ → Ends
ends_at ends l = slice_index_or ends l no_ends

-- the processes from this one on, n at the most
abbrev pub walk : List Node → ℕ → Option ℕ → List ℕ
walk nodes zero from = []
walk nodes (suc most) None = []
walk nodes (suc most) (Some p) = p ∷ walk nodes most (node_at nodes p).after

-- each list, from its first on
abbrev pub lists_of : List Node → List Ends → List (List ℕ)
lists_of nodes ends = map (λ (e : Ends). walk nodes (length nodes) e.first) ends

-- the nodes and the ends as a contract sees them
abbrev pub links_of : List Node → List Ends → Links
links_of nodes ends = record { processes = length nodes; lists = lists_of nodes ends }

-- the nodes and the ends are linked as these lists say
pub record AreLinked (nodes : List Node) (ends : List Ends) (lists : ℕ → List ℕ) : Type 0 where
  pub known : (l p : ℕ) → stands_in p (lists l) ≡ true → p < length nodes
  pub links : (l p : ℕ) → stands_in p (lists l) ≡ true
      → node_at nodes p ≡ record {
        list = Some l;
        before = before_in p (lists l);
        after = after_in p (lists l);
      }
  pub members : (l p : ℕ) → (node_at nodes p).list ≡ Some l → stands_in p (lists l) ≡ true
  pub bare : (p : ℕ) → (node_at nodes p).list ≡ None → node_at nodes p ≡ free
  pub edges : (l : ℕ) → ends_at ends l
      ≡ record { first = first_of (lists l); last = last_of (lists l) }
  pub distinct : (l : ℕ) → IsDistinct (lists l)

-- the nodes and the ends are linked by the lists that walks along them find
abbrev pub IsLinked : List Node → List Ends → Type 0
IsLinked nodes ends = AreLinked nodes ends (λ l. slice_index_or (lists_of nodes ends) l [])

-- this process, or none, comes behind process p from now on, if there is a p
abbrev pub followed : List Node → Option ℕ → Option ℕ → List Node
followed nodes None after = nodes
followed nodes (Some p) after = slice_set nodes p (record (node_at nodes p) { after = after })

-- this process, or none, comes before process p from now on, if there is a p
abbrev pub preceded : List Node → Option ℕ → Option ℕ → List Node
preceded nodes None before = nodes
preceded nodes (Some p) before = slice_set nodes p (record (node_at nodes p) { before = before })

-- list l begins with this process, or with none, from now on, if none is before the place
abbrev pub led : List Ends → ℕ → Option ℕ → Option ℕ → List Ends
led ends l None first = slice_set ends l (record (ends_at ends l) { first = first })
led ends l (Some p) first = ends

-- list l ends with this process, or with none, from now on, if none is behind the place
abbrev pub trailed : List Ends → ℕ → Option ℕ → Option ℕ → List Ends
trailed ends l None last = slice_set ends l (record (ends_at ends l) { last = last })
trailed ends l (Some p) last = ends

-- process n has this node from now on; `follows` comes behind `before`, and `precedes` comes before
-- `after`
abbrev pub spliced : List Node → ℕ → Node → Option ℕ → Option ℕ → Option ℕ → Option ℕ → List Node
spliced nodes n node before after follows precedes =
    slice_set (preceded (followed nodes before follows) after precedes) n node

-- list l has this first process from now on if none is before the place, and this last one if none
-- is behind it
abbrev pub respliced : List Ends → ℕ → Option ℕ → Option ℕ → Option ℕ → Option ℕ → List Ends
respliced ends l before after first last = slice_set ends l (record {
  first = if is_none before then first else (ends_at ends l).first;
  last = if is_none after then last else (ends_at ends l).last;
})

-- list l has this first process from now on if the place has none before it, and this last one if
-- it has none behind it
abbrev pub rebound : List Ends → ℕ → Node → Option ℕ → Option ℕ → List Ends
rebound ends l place first last = respliced ends l place.before place.after first last

-- process p is at this place from now on, between the two neighbours there
abbrev pub nodes_with : List Node → ℕ → Node → List Node
nodes_with nodes p place = spliced nodes p place place.before place.after (Some p) (Some p)

abbrev pub ends_with : List Ends → ℕ → ℕ → Node → List Ends
ends_with ends l p place = rebound ends l place (Some p) (Some p)

-- process p is no longer at this place of a list: its neighbours there follow each other
abbrev pub nodes_without : List Node → ℕ → Node → List Node
nodes_without nodes p place = spliced nodes p free place.before place.after place.after place.before

abbrev pub ends_without : List Ends → ℕ → Node → List Ends
ends_without ends l place = rebound ends l place place.after place.before

-- the process, if there is one, has a node
abbrev pub IsKnown : List Node → Option ℕ → Type 0
IsKnown nodes process = IfSome process (λ p. p < length nodes)
