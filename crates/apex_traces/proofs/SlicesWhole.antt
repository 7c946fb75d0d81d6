-- The texts of a slice's end and of its beginning, put together.
use Rattle.std.proofs.Common.{◌≡◌, ◌∙◌, ℕ, List, ◌++◌, ap, sym, append_assoc, codes, decimal, arith}
use Rattle.std.proofs.lemmas.Fmt.{decimal_digit}
use Rattle.apex_traces.specs.Times.{time_text, time_back}
use Rattle.apex_json.specs.Strings.{json_text}
use Rattle.apex_traces.specs.Calls.{said_text}
use Rattle.apex_traces.specs.Stamps.{begin_back, begin_front, end_front, group_number}
use Rattle.apex_traces.specs.Trace.{begin_text, end_text}
use Rattle.apex_traces.specs.declared.stamps.Group.TheVariants.{Cores, Processes, Objects}
use Rattle.apex_traces.specs.declared.trace.Spot.{Spot}

one : decimal 1 ≡ codes "1"
one = decimal_digit 1 (omega arith)

two : decimal 2 ≡ codes "2"
two = decimal_digit 2 (omega arith)

three : decimal 3 ≡ codes "3"
three = decimal_digit 3 (omega arith)

-- the digit of a number in a text
in_front : (front back digit : List ℕ) (number : ℕ) → decimal number ≡ digit
    → front ++ digit ++ back ≡ front ++ decimal number ++ back
in_front front back digit number is = ap (λ l. front ++ l ++ back) (sym is)

pub end_front_cores : codes ",\n{\"ph\":\"E\",\"pid\":1,\"tid\":" ≡ end_front Cores
end_front_cores = in_front (codes ",\n{\"ph\":\"E\",\"pid\":") (codes ",\"tid\":") (codes "1") 1 one

pub end_front_processes : codes ",\n{\"ph\":\"E\",\"pid\":2,\"tid\":" ≡ end_front Processes
end_front_processes = in_front (codes ",\n{\"ph\":\"E\",\"pid\":") (codes ",\"tid\":") (codes "2") 2 two

pub end_front_objects : codes ",\n{\"ph\":\"E\",\"pid\":3,\"tid\":" ≡ end_front Objects
end_front_objects = in_front (codes ",\n{\"ph\":\"E\",\"pid\":") (codes ",\"tid\":") (codes "3") 3 three

pub begin_front_cores : codes ",\n{\"ph\":\"B\",\"pid\":1,\"tid\":" ≡ begin_front Cores
begin_front_cores = in_front (codes ",\n{\"ph\":\"B\",\"pid\":") (codes ",\"tid\":") (codes "1") 1 one

pub begin_front_processes : codes ",\n{\"ph\":\"B\",\"pid\":2,\"tid\":" ≡ begin_front Processes
begin_front_processes = in_front (codes ",\n{\"ph\":\"B\",\"pid\":") (codes ",\"tid\":") (codes "2") 2 two

pub begin_front_objects : codes ",\n{\"ph\":\"B\",\"pid\":3,\"tid\":" ≡ begin_front Objects
begin_front_objects = in_front (codes ",\n{\"ph\":\"B\",\"pid\":") (codes ",\"tid\":") (codes "3") 3 three

-- three texts behind another one
behind : (text a b c after first second : List ℕ) → first ≡ text ++ a → second ≡ first ++ b → after ≡ second ++ c
    → after ≡ text ++ (a ++ (b ++ c))
behind text a b c after first second x y z =
    z ∙ ap (λ l. l ++ c) (y ∙ ap (λ l. l ++ b) x) ∙ append_assoc (text ++ a) b c ∙ append_assoc text a (b ++ c)

-- six texts behind another one
pub six_behind : (text a b c d e f first second third fourth fifth whole : List ℕ)
    → first ≡ text ++ a → second ≡ first ++ b → third ≡ second ++ c → fourth ≡ third ++ d → fifth ≡ fourth ++ e → whole ≡ fifth ++ f
    → whole ≡ text ++ (a ++ b ++ c ++ d ++ e ++ f)
six_behind text a b c d e f first second third fourth fifth whole u v w x y z =
    z ∙ ap (λ l. l ++ f) (y ∙ ap (λ l. l ++ e) (x ∙ ap (λ l. l ++ d) (w ∙ ap (λ l. l ++ c) (v ∙ ap (λ l. l ++ b) u))))
    ∙ ap (λ l. (((l ++ c) ++ d) ++ e) ++ f) (append_assoc text a b)
    ∙ ap (λ l. ((l ++ d) ++ e) ++ f) (append_assoc text (a ++ b) c)
    ∙ ap (λ l. (l ++ e) ++ f) (append_assoc text (a ++ b ++ c) d)
    ∙ ap (λ l. l ++ f) (append_assoc text (a ++ b ++ c ++ d) e)
    ∙ append_assoc text (a ++ b ++ c ++ d ++ e) f

-- the end of a slice
pub end_whole : (spot : Spot) (text first second third after : List ℕ) → first ≡ text ++ end_front spot.group
    → second ≡ first ++ decimal spot.track → third ≡ second ++ time_back spot.time → after ≡ third ++ codes "}"
    → after ≡ text ++ end_text spot
unfolding end_text
end_whole spot text first second third after w x y z =
    let e = codes ",\n{\"ph\":\"E\",\"pid\":" in
    let tid = codes ",\"tid\":" in
    let ts = codes ",\"ts\":" in
    let group = decimal (group_number spot.group) in
    let track = decimal spot.track in
    let time = time_text spot.time in
    let rest : time_back spot.time ++ codes "}" ≡ ts ++ (time ++ codes "}") = append_assoc ts time (codes "}") in
    let back : after ≡ second ++ (time_back spot.time ++ codes "}") =
    z ∙ ap (λ l. l ++ codes "}") y ∙ append_assoc second (time_back spot.time) (codes "}") in
    behind text (end_front spot.group) track (time_back spot.time ++ codes "}") after first second w x back
    ∙ ap (λ l. text ++ (end_front spot.group ++ (track ++ l))) rest
    ∙ ap (λ l. text ++ l) (append_assoc (e ++ group) tid (track ++ (ts ++ (time ++ codes "}")))
    ∙ append_assoc e group (tid ++ (track ++ (ts ++ (time ++ codes "}")))))

-- the beginning of a slice
pub begin_whole : (spot : Spot) (text first second third after : List ℕ) → first ≡ text ++ begin_front spot.group
    → second ≡ first ++ decimal spot.track → third ≡ second ++ time_back spot.time → after ≡ third ++ codes ",\"name\":\""
    → after ≡ text ++ begin_text spot
unfolding begin_text
begin_whole spot text first second third after w x y z =
    let b = codes ",\n{\"ph\":\"B\",\"pid\":" in
    let tid = codes ",\"tid\":" in
    let ts = codes ",\"ts\":" in
    let name = codes ",\"name\":\"" in
    let group = decimal (group_number spot.group) in
    let track = decimal spot.track in
    let time = time_text spot.time in
    let rest : time_back spot.time ++ name ≡ ts ++ (time ++ name) = append_assoc ts time name in
    let back : after ≡ second ++ (time_back spot.time ++ name) =
    z ∙ ap (λ l. l ++ name) y ∙ append_assoc second (time_back spot.time) name in
    behind text (begin_front spot.group) track (time_back spot.time ++ name) after first second w x back
    ∙ ap (λ l. text ++ (begin_front spot.group ++ (track ++ l))) rest
    ∙ ap (λ l. text ++ l) (append_assoc (b ++ group) tid (track ++ (ts ++ (time ++ name)))
    ∙ append_assoc b group (tid ++ (track ++ (ts ++ (time ++ name)))))

-- the time and the name of a mark, behind the number of its track
pub mark_back : (time : ℕ) (first second third : List ℕ) → second ≡ first ++ time_back time
    → third ≡ second ++ codes ",\"name\":\"" → third ≡ first ++ begin_back time
mark_back time first second third x y =
    y ∙ ap (λ l. l ++ codes ",\"name\":\"") x ∙ append_assoc first (time_back time) (codes ",\"name\":\"")

-- the arguments and the name of the slice of a call
pub said_whole : (number : ℕ) (reply asked text first second third fourth fifth sixth whole : List ℕ)
    → first ≡ text ++ codes ",\"args\":{\"entry\":" → second ≡ first ++ decimal number
    → third ≡ second ++ codes ",\"reply\":\"" → fourth ≡ third ++ json_text reply
    → fifth ≡ fourth ++ codes "\"},\"name\":\"" → sixth ≡ fifth ++ json_text asked → whole ≡ sixth ++ codes "\"}"
    → whole ≡ text ++ said_text number reply asked
unfolding said_text
said_whole number reply asked text first second third fourth fifth sixth whole u v w x y z last =
    let args = codes ",\"args\":{\"entry\":" in
    let back = codes ",\"reply\":\"" in
    let name = codes "\"},\"name\":\"" in
    last ∙ ap (λ l. l ++ codes "\"}") (six_behind text args (decimal number) back (json_text reply) name (json_text asked)
    first second third fourth fifth sixth u v w x y z)
    ∙ append_assoc text (args ++ decimal number ++ back ++ json_text reply ++ name ++ json_text asked) (codes "\"}")
