-- Texts that are gathered in a page, one behind the other: those of the things of a section, and
-- the sections.
use Rattle.std.proofs.Common.{◌≡◌, ℕ, zero, suc, ◌+◌, ◌-◌, ◌<◌, List, [], ◌∷◌, ◌++◌, Option, length, take, drop, get_or, refl, sym, ap, ◌∙◌, append_assoc, append-nil, take-append-drop, arith}
use Rattle.std.proofs.KnownBytes.{Appends-trans}
use Rattle.std.specs.Prelude.{flat_map}
use Rattle.std.proofs.lemmas.List.{take_more}
use Rattle.std.proofs.lemmas.List.Concat.{flat_map-append}
use Rattle.apex_machine.specs.text.Listing.{listing_of, texts_of}
use Rattle.apex_machine.specs.text.Status.{time_line, mode_line, history_line}
use Rattle.apex_history.specs.Counted.{AppendsBeginning}
use Rattle.apex_history.specs.Page.{Passes}
use Rattle.apex_history.proofs.Passing.{beginning_after, beginning_longer, passes_with}
use Rattle.apex_services.specs.declared.listing.Section.TheVariants.{Cores, Processes, Semaphores, Buffers, Blackboards, EventFlags, Mutexes}
use Rattle.apex_services.specs.Sections.{Listed, sections, section_text}

module _ (a b c : Option (List ℕ)) (text held more : List ℕ) (p : Passes a b text held) where
  -- one more text is gathered
  gathers_more : (kept : List ℕ) → Passes b c (held ++ more) kept → Passes a c (text ++ more) kept
  gathers_more kept q =
      let (front, whole, first) = passes_with a b text held more p in
      let (done, split, second) = q in
      (front ++ done, whole ∙ ap (λ l. front ++ l) split ∙ sym (append_assoc front done kept), Appends-trans a b c front done first second)

  -- if it fails, a prefix of all that was to come was written
  begins_more : (rest : List ℕ) → AppendsBeginning b c (held ++ more) → AppendsBeginning a c ((text ++ more) ++ rest)
  begins_more rest h =
      beginning_longer a c (text ++ more) rest (beginning_after a b c (text ++ more) (held ++ more) (passes_with a b text held more p) h)

-- the texts of the first n things are a prefix of those of more things
texts_begin : (text : ℕ → List ℕ) (n left : ℕ) → (rest : List ℕ) × (texts_of text (left + n) ≡ texts_of text n ++ rest)
texts_begin text n zero = let e : 0 + n ≡ n = omega arith in ([], rw e (sym (append-nil (texts_of text n))))
texts_begin text n (suc left) =
    let (rest, split) = texts_begin text n left in
    let e : suc left + n ≡ suc (left + n) = omega arith in
    (rest ++ text (left + n), rw e (ap (λ l. l ++ text (left + n)) split ∙ append_assoc (texts_of text n) rest (text (left + n))))

module _ (a b c : Option (List ℕ)) (before held : List ℕ) (text : ℕ → List ℕ) (n : ℕ) (p : Passes a b (before ++ texts_of text n) held) where
  next_text : (before ++ texts_of text n) ++ text n ≡ before ++ texts_of text (n + 1)
  next_text = let e : n + 1 ≡ suc n = omega arith in rw e (append_assoc before (texts_of text n) (text n))

  -- behind the texts of the first n things the next one is gathered
  pub gathers_next : (kept : List ℕ) → Passes b c (held ++ text n) kept → Passes a c (before ++ texts_of text (n + 1)) kept
  gathers_next kept q = rw (← next_text) (gathers_more a b c (before ++ texts_of text n) held (text n) p kept q)

  pub begins_next : (many : ℕ) → n < many → AppendsBeginning b c (held ++ text n) → AppendsBeginning a c (before ++ texts_of text many)
  begins_next many within h =
      let (rest, split) = texts_begin text (n + 1) (many - (n + 1)) in
      let e : many - (n + 1) + (n + 1) ≡ many = omega (arith, within) in
      let whole : before ++ texts_of text many ≡ (before ++ texts_of text (n + 1)) ++ rest =
      ap (λ l. before ++ l) (rw e at split) ∙ sym (append_assoc before (texts_of text (n + 1)) rest) in
      rw (whole, ← next_text) (begins_more a b c (before ++ texts_of text n) held (text n) p rest h)

module _ {A : Type 0} (a b c : Option (List ℕ)) (held : List ℕ) (text : A → List ℕ) (xs : List A) (i : ℕ) (d : A)
    (within : i < length xs) (p : Passes a b (flat_map text (take i xs)) held) where
  abbrev next : List ℕ
  next = text (get_or xs i d)

  next_piece : flat_map text (take i xs) ++ next ≡ flat_map text (take (i + 1) xs)
  next_piece =
      ap (λ l. flat_map text (take i xs) ++ l) (sym (append-nil next))
      ∙ sym (flat_map-append text (take i xs) (get_or xs i d ∷ [])) ∙ ap (flat_map text) (sym (take_more xs i d within))

  -- behind the texts of the first i elements that of the next one is gathered
  pub gathers_piece : (kept : List ℕ) → Passes b c (held ++ next) kept → Passes a c (flat_map text (take (i + 1) xs)) kept
  gathers_piece kept q = rw (← next_piece) (gathers_more a b c (flat_map text (take i xs)) held next p kept q)

  pub begins_piece : AppendsBeginning b c (held ++ next) → AppendsBeginning a c (flat_map text xs)
  begins_piece h =
      let rest = flat_map text (drop (i + 1) xs) in
      let whole : flat_map text xs ≡ flat_map text (take (i + 1) xs) ++ rest =
      ap (flat_map text) (sym (take-append-drop (i + 1) xs)) ∙ flat_map-append text (take (i + 1) xs) (drop (i + 1) xs) in
      rw (whole, ← next_piece) (begins_more a b c (flat_map text (take i xs)) held next p rest h)

joined : (a b c d e f g h i j : List ℕ)
    → a ++ (b ++ (c ++ (d ++ (e ++ (f ++ (g ++ (h ++ (i ++ (j ++ []))))))))) ≡ a ++ b ++ c ++ d ++ e ++ f ++ g ++ h ++ i ++ j
joined a b c d e f g h i j = simp (append_assoc, append-nil) refl

-- the sections one behind the other are the listing
pub sections_listed : (listed : Listed)
    → flat_map (section_text listed) sections ≡ listing_of listed.table listed.roster listed.objects listed.entries
sections_listed listed =
    joined (time_line listed.roster.now) (mode_line listed.roster.mode) (history_line listed.entries)
    (section_text listed Cores) (section_text listed Processes) (section_text listed Semaphores)
    (section_text listed Buffers) (section_text listed Blackboards) (section_text listed EventFlags) (section_text listed Mutexes)
