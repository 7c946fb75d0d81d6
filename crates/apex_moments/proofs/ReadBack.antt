-- Texts are read back as they are.
use Rattle.std.proofs.Common.{◌≡◌, ◌∙◌, ℕ, true, ◌==◌, List, [], ◌∷◌, ◌++◌, None, refl, ap, inl, inr, eqb-true}
use Rattle.std.proofs.lemmas.Bool.{cases_Bool}
use Rattle.apex_moments.specs.Texts.{AreReadBack, xml_byte, xml_read, xml_text}

-- a byte that has a name
named : (byte name : ℕ) (rest : List ℕ) → (byte == name) ≡ true
    → xml_read None (xml_byte name ++ rest) ≡ name ∷ xml_read None rest
    → xml_read None (xml_byte byte ++ rest) ≡ byte ∷ xml_read None rest
named byte name rest is back = rw (eqb-true byte name is) back

xml_byte_back : (byte : ℕ) (rest : List ℕ) → xml_read None (xml_byte byte ++ rest) ≡ byte ∷ xml_read None rest
xml_byte_back byte rest = elim (cases_Bool (byte == 38)) [
  | inl amp ↦ named byte 38 rest amp refl
  | inr a ↦ elim (cases_Bool (byte == 60)) [
    | inl lt ↦ named byte 60 rest lt refl
    | inr l ↦ elim (cases_Bool (byte == 62)) [
      | inl gt ↦ named byte 62 rest gt refl
      | inr g ↦ elim (cases_Bool (byte == 34)) [
        | inl quot ↦ named byte 34 rest quot refl
        | inr q ↦ rw (a, l, g, q) (rw a refl)
      ]
    ]
  ]
]

pub read_back : AreReadBack
read_back [] = refl
read_back (byte ∷ bytes) = xml_byte_back byte (xml_text bytes) ∙ ap (λ rest. byte ∷ rest) (read_back bytes)
