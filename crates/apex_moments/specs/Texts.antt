-- The parts of a picture's text: bytes are escaped, and read back.
use Rattle.std.specs.Prelude.{◌≡◌, ℕ, List, [], ◌∷◌, ◌++◌, ◌==◌, Option, None, Some, codes, decimal, flat_map, if◌then◌else◌}
use Rattle.std.specs.Str.{bytes_eq}
use Rattle.apex_json.specs.Strings.{json_text}
use Rattle.apex_moments.specs.declared.texts.Part.{Part}
use Rattle.apex_moments.specs.declared.texts.Part.TheVariants.{Plain, Number, Xml, Json}

-- a byte as XML shows it: `&` (38), `<` (60), `>` (62) and `"` (34) have names
abbrev pub xml_byte : ℕ → List ℕ
xml_byte byte =
    if byte == 38 then codes "&amp;"
    else if byte == 60 then codes "&lt;"
    else if byte == 62 then codes "&gt;"
    else if byte == 34 then codes "&quot;" else byte ∷ []

-- bytes as XML shows them
abbrev pub xml_text : List ℕ → List ℕ
xml_text bytes = flat_map xml_byte bytes

-- the byte that XML has by this name
abbrev pub xml_named : List ℕ → ℕ
xml_named name =
    if bytes_eq name (codes "amp") then 38
    else if bytes_eq name (codes "lt") then 60
    else if bytes_eq name (codes "gt") then 62
    else 34

-- The bytes that a reader of XML takes from character data: a byte as it is, and from `&` (38) to
-- `;` (59) the byte of that name. The name so far is none outside of one.
abbrev pub xml_read : Option (List ℕ) → List ℕ → List ℕ
xml_read name [] = []
xml_read None (byte ∷ rest) =
    if byte == 38 then xml_read (Some []) rest else byte ∷ xml_read None rest
xml_read (Some name) (byte ∷ rest) =
    if byte == 59 then xml_named name ∷ xml_read None rest
    else xml_read (Some (name ++ byte ∷ [])) rest

-- the text of a part
abbrev pub part_text : Part → List ℕ
part_text (Plain text) = text.now
part_text (Number number) = decimal number
part_text (Xml bytes) = xml_text bytes.now
part_text (Json bytes) = json_text bytes.now

-- texts one behind the other
abbrev pub texts : List (List ℕ) → List ℕ
texts parts = flat_map (λ part. part) parts

-- each text is read back as it is
abbrev pub AreReadBack : Type 0
AreReadBack = (bytes : List ℕ) → xml_read None (xml_text bytes) ≡ bytes
