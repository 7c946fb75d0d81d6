-- The nodes and the ends once a place in a list has changed.
use Rattle.std.proofs.Common.{◌≡◌, ◌≢◌, ℕ, ◌<◌, List, length, Option, None, Some, is_none, refl, arith}
use Rattle.std.specs.Prelude.{if◌then◌else◌}
use Rattle.std.specs.Option.{IfSome}
use Rattle.std.proofs.lemmas.Grind.{common_steps, get_or-set_at}
use Rattle.std.proofs.lemmas.List.{length-set, get_or-set_other, set-set}
use Rattle.apex_machine.specs.processes.Running.{is_process}
use Rattle.apex_links.specs.declared.chains.Node.{Node}
use Rattle.apex_links.specs.declared.chains.Ends.{Ends}
use Rattle.apex_links.specs.Chains.{no_ends, node_at, ends_at, followed, led, preceded, spliced, respliced, trailed}

module _ (nodes : List Node) where
  length-followed : (before after : Option ℕ) → length (followed nodes before after) ≡ length nodes
  length-followed None after = refl
  length-followed (Some q) after = length-set nodes q _

  length-preceded : (after before : Option ℕ) → length (preceded nodes after before) ≡ length nodes
  length-preceded None before = refl
  length-preceded (Some q) before = length-set nodes q _

  node_at-followed : (before after : Option ℕ) (p : ℕ) → IfSome before (λ q. q < length nodes)
      → node_at (followed nodes before after) p ≡ record (node_at nodes p) { after = if is_process p before then after else (node_at nodes p).after }
  node_at-followed None after p known = refl
  node_at-followed (Some q) after p known = grind (arith, common_steps, known)

  node_at-preceded : (after before : Option ℕ) (p : ℕ) → IfSome after (λ q. q < length nodes)
      → node_at (preceded nodes after before) p ≡ record (node_at nodes p) { before = if is_process p after then before else (node_at nodes p).before }
  node_at-preceded None before p known = refl
  node_at-preceded (Some q) before p known = grind (arith, common_steps, known)

module _ (nodes : List Node) (n : ℕ) (node : Node) (before after follows precedes : Option ℕ) where
  pub length-spliced : length (spliced nodes n node before after follows precedes) ≡ length nodes
  length-spliced = grind (arith, length-set, length-preceded (followed nodes before follows) after precedes, length-followed nodes before follows)

  pub spliced_here : n < length nodes → node_at (spliced nodes n node before after follows precedes) n ≡ node
  spliced_here known = grind (arith, common_steps, known, length-preceded (followed nodes before follows) after precedes, length-followed nodes before follows)

  pub spliced_other : (p : ℕ) → p ≢ n → IfSome before (λ q. q < length nodes) → IfSome after (λ q. q < length nodes)
      → node_at (spliced nodes n node before after follows precedes) p ≡ record {
        list = (node_at nodes p).list;
        before = if is_process p after then precedes else (node_at nodes p).before;
        after = if is_process p before then follows else (node_at nodes p).after;
      }
  spliced_other p apart front rest =
      let known : IfSome after (λ q. q < length (followed nodes before follows)) = rw (length-followed nodes before follows) rest in
      rw (
        get_or-set_other (preceded (followed nodes before follows) after precedes) n p node _ apart,
        node_at-preceded (followed nodes before follows) after precedes p known,
        node_at-followed nodes before follows p front,
      ) refl

module _ (ends : List Ends) (l : ℕ) (before after first last : Option ℕ) where
  pub length-respliced : length (respliced ends l before after first last) ≡ length ends
  length-respliced = length-set ends l _

  pub respliced_here : l < length ends → ends_at (respliced ends l before after first last) l ≡ record {
    first = if is_none before then first else (ends_at ends l).first;
    last = if is_none after then last else (ends_at ends l).last;
  }
  respliced_here known = grind (arith, common_steps, known)

  pub respliced_other : (m : ℕ) → m ≢ l → ends_at (respliced ends l before after first last) m ≡ ends_at ends m
  respliced_other m apart = get_or-set_other ends l m _ _ apart

  -- a list that begins and ends anew has these ends
  pub led_trailed : l < length ends → trailed (led ends l before first) l after last ≡ respliced ends l before after first last
  led_trailed known = ends_of before after known where
    ends_of : (before after : Option ℕ) → l < length ends → trailed (led ends l before first) l after last ≡ respliced ends l before after first last
    ends_of None None known = rw (get_or-set_at ends l l (record (ends_at ends l) { first = first }) no_ends refl known) (set-set ends l _ _)
    ends_of None (Some q) known = grind (arith, common_steps, known)
    ends_of (Some p) None known = grind (arith, common_steps, known)
    ends_of (Some p) (Some q) known = grind (arith, common_steps, known)
