-- What is found by the choices in a state, and in the states of a batch.
use Rattle.std.proofs.Common.{◌≡◌, ℕ, ◌+◌, ◌<◌, ◌≤◌, List, [], ◌∷◌, length, Some, refl, sym, ap, ◌∙◌, subst, inl, inr, arith, length-append}
use Rattle.std.proofs.lemmas.Bool.{cases_lt}
use Rattle.std.proofs.lemmas.Option.{same_Some, slice_get_within}
use Rattle.std.specs.List.{slice_get}
use Rattle.apex_states.specs.Batches.{Copies}
use Rattle.apex_states.specs.Finds.{Found, IsPut, no_finds, with_find}
use Rattle.apex_states.specs.Lists.{IsFront}
use Rattle.apex_states.specs.declared.states.Origin.{Origin}
use Rattle.apex_states.proofs.Fronts.{IsFront-push, IsFront-refl, IsFront-trans}
use Rattle.apex_states.proofs.Probing.{last_or_before}
use Rattle.apex_explore.specs.Levels.{IsAmong, Keeps}
use Rattle.apex_explore.specs.Parts.{FindsMore, Finds, IsFilling}
use Rattle.apex_explore.specs.Systems.{Step, refuses, goes, step_within}
use Rattle.apex_explore.proofs.Growth.{slice_get-push, step_within-past}
use Rattle.apex_explore.proofs.Levels.{Keeps-widen}

module _ (step : List ℕ → ℕ → Step (List ℕ)) (place : ℕ) (k : List ℕ) where
  -- the choices before this one are made in the state k
  pub record IsFinding (old now : Found) (choice : ℕ) : Type 0 where
    pub more : FindsMore step place k old now
    pub made : (c : ℕ) → c < choice → Keeps now.states (step k c)

  pub IsFinding-start : (old : Found) → IsFinding old old 0
  IsFinding-start old = record {
    more = record { states_front = IsFront-refl old.states; added = λ at n origin find. inl find };
    made = λ c below. absurd (omega arith);
  }

  made_more : (now new : Found) (choice : ℕ) → IsFront now.states new.states
      → ((c : ℕ) → c < choice → Keeps now.states (step k c)) → Keeps new.states (step k choice)
      → (c : ℕ) → c < choice + 1 → Keeps new.states (step k c)
  made_more now new choice front made last c below =
      elim (cases_lt c choice) [
        | inl lt ↦ Keeps-widen (step k c) front (made c lt)
        | inr ge ↦
            let e : choice ≡ c = omega arith in
            let Kept : ℕ → Type 0 = λ n. Keeps new.states (step k n) in
            subst Kept e last
      ]

  -- a choice that is refused finds nothing
  pub IsFinding-refused : (old now : Found) (choice : ℕ) → step k choice ≡ refuses → IsFinding old now choice → IsFinding old now (choice + 1)
  IsFinding-refused old now choice refused so_far =
      let Kept : Step (List ℕ) → Type 0 = λ s. Keeps now.states s in
      record { more = so_far.more; made = made_more now now choice (IsFront-refl now.states) so_far.made (subst Kept (sym refused) tt) }

  added_one : (old now : Found) (n : List ℕ) (choice : ℕ) → step k choice ≡ goes n → length now.origins ≡ length now.states → FindsMore step place k old now
      → FindsMore step place k old (with_find now n (record { parent = place; choice = choice }))
  added_one old now n choice leads paired more =
      let made : Origin = record { parent = place; choice = choice } in
      record {
        states_front = IsFront-trans more.states_front (IsFront-push now.states n);
        added = λ at other origin find.
            elim (last_or_before now.states n at other find.state) [
              | inl before ↦
                  let short = slice_get_within now.states at other before in
                  elim (last_or_before now.origins made at origin find.origin) [
                    | inl origin_is ↦ more.added at other origin (record { state = before; origin = origin_is })
                    | inr last ↦ absurd (omega (arith, short, paired, last.0))
                  ]
              | inr last ↦
                  elim (last_or_before now.origins made at origin find.origin) [
                    | inl origin_is ↦ let short = slice_get_within now.origins at origin origin_is in absurd (omega (arith, short, paired, last.0))
                    | inr newest ↦
                        let Is : Origin → Type 0 = λ o. (o.parent ≡ place) × (step k o.choice ≡ goes other) in
                        inr (subst Is newest.1 (refl, leads ∙ ap goes last.1))
                  ]
            ];
      }

  -- a state that a choice goes on to is put behind the others, unless it is there
  pub IsFinding-put : (old now new : Found) (n : List ℕ) (choice : ℕ) → step k choice ≡ goes n → length now.origins ≡ length now.states
      → IsPut now n (record { parent = place; choice = choice }) new → IsFinding old now choice → IsFinding old new (choice + 1)
  IsFinding-put old now new n choice leads paired (inl (known, e)) so_far =
      let Kept : Step (List ℕ) → Type 0 = λ s. Keeps now.states s in
      let among : IsAmong now.states (length now.states) n = record { place = known.0; within = slice_get_within now.states known.0 n known.1; is = known.1 } in
      let same : IsFinding old now (choice + 1) = record { more = so_far.more; made = made_more now now choice (IsFront-refl now.states) so_far.made (subst Kept (sym leads) among) } in
      subst (λ f. IsFinding old f (choice + 1)) (sym e) same
  IsFinding-put old now new n choice leads paired (inr (none, e)) so_far =
      let next : Found = with_find now n (record { parent = place; choice = choice }) in
      let Kept : Step (List ℕ) → Type 0 = λ s. Keeps next.states s in
      let among : IsAmong next.states (length next.states) n = record { place = length now.states; within = omega (arith, length-append now.states (n ∷ [])); is = slice_get-push now.states n } in
      let put : IsFinding old next (choice + 1) = record { more = added_one old now n choice leads paired so_far.more; made = made_more now next choice (IsFront-push now.states n) so_far.made (subst Kept (sym leads) among) } in
      subst (λ f. IsFinding old f (choice + 1)) (sym e) put

-- once each of the system's choices is made, all are
pub each_made : (choices : ℕ) (step : List ℕ → ℕ → Step (List ℕ)) (place : ℕ) (k : List ℕ) (old now : Found) (end : ℕ) → choices ≤ end
    → IsFinding (step_within choices step) place k old now end → (choice : ℕ) → Keeps now.states (step_within choices step k choice)
each_made choices step place k old now end past so_far choice =
    elim (cases_lt choice end) [
      | inl lt ↦ so_far.made choice lt
      | inr ge ↦
          let Kept : Step (List ℕ) → Type 0 = λ s. Keeps now.states s in
          subst Kept (sym (step_within-past choices step k choice (omega (arith, past, ge)))) tt
    ]

pub IsFilling-put : (word_count : ℕ) (is_state : List ℕ → Type 0) (old new : Found) (n : List ℕ) (origin : Origin) → IsPut old n origin new → is_state n → IsFilling word_count is_state old → IsFilling word_count is_state new
IsFilling-put word_count is_state old new n origin (inl (known, e)) holds filling = rw e filling
IsFilling-put word_count is_state old new n origin (inr (none, e)) holds filling = rw e (record {
  paired = omega (arith, length-append old.origins (origin ∷ []), length-append old.states (n ∷ []), filling.paired);
  width = filling.width;
  states = λ place other is. elim (last_or_before old.states n place other is) [
    | inl before ↦ filling.states place other before
    | inr last ↦ subst is_state last.1 holds
  ];
})

-- nothing is found yet
pub Finds-start : (step : List ℕ → ℕ → Step (List ℕ)) (copies : Copies) (width : ℕ) → Finds step copies 0 (no_finds width)
Finds-start step copies width = record {
  from = λ at n origin find. let none = find.state in cc;
  whole = λ at k choice below. absurd (omega arith);
}

pub IsFilling-start : (word_count : ℕ) (is_state : List ℕ → Type 0) (width : ℕ) → width ≡ word_count → IsFilling word_count is_state (no_finds width)
IsFilling-start word_count is_state width e = record { paired = refl; width = e; states = λ place k is. cc }

module _ (step : List ℕ → ℕ → Step (List ℕ)) (copies : Copies) (done : ℕ) (k : List ℕ) (is : slice_get copies.states done ≡ Some k) where
  -- what choices in one more state find
  pub Finds-more : (old new : Found) → FindsMore step (copies.first + done) k old new → Finds step copies done old → Finds step copies done new
  Finds-more old new more finds = record {
    from = λ at n origin find. elim (more.added at n origin find) [
      | inl before ↦ finds.from at n origin before
      | inr (parent, leads) ↦ record { at = done; k = k; place = parent; is = is; leads = leads }
    ];
    whole = λ at other choice below there. Keeps-widen (step other choice) more.states_front (finds.whole at other choice below there);
  }

  -- one more state is done
  pub Finds-past : (found : Found) → ((choice : ℕ) → Keeps found.states (step k choice)) → Finds step copies done found → Finds step copies (done + 1) found
  Finds-past found made finds = record {
    from = finds.from;
    whole = λ at other choice below there. elim (cases_lt at done) [
      | inl lt ↦ finds.whole at other choice lt there
      | inr ge ↦
          let e : at ≡ done = omega arith in
          let here : slice_get copies.states done ≡ Some other = ap (slice_get copies.states) (sym e) ∙ there in
          let Kept : List ℕ → Type 0 = λ x. Keeps found.states (step x choice) in
          subst Kept (same_Some k other (sym is ∙ here)) (made choice)
    ];
  }
