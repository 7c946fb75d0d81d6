-- How many words there are of each part.
use Rattle.std.proofs.Common.{◌≡◌, ℕ, ◌+◌, ◌*◌, ◌<◌, ◌≤◌, List, [], ◌∷◌, ◌++◌, length, get_or, take, ap, sym, ◌∙◌, subst, refl, arith, append_assoc, zero, suc, add-one, Option, None, Some}
use Rattle.std.specs.List.{flat_map}
use Rattle.std.proofs.lemmas.List.{append-nil, length-append, length-take-le, take_all}
use Rattle.apex_machine.specs.Deeds.{Objects}
use Rattle.apex_machine.specs.processes.Roster.{nobody}
use Rattle.apex_machine.specs.services.ProcessServices.{ProcessObject}
use Rattle.apex_machine.specs.table.Table.{Table}
use Rattle.apex_pace.specs.Pace.{Paced}
use Rattle.apex_forms.proofs.Puts.{both_put}
use Rattle.apex_forms.specs.Objects.{blackboard_words, buffer_words, event_flag_words, mutex_words, semaphore_words}
use Rattle.apex_forms.specs.Parts.{IsPut}
use Rattle.apex_forms.specs.Records.{record_words}
use Rattle.apex_forms.specs.Stored.{FitsWords, core_words, cores_words, counted_count, counted_words, head_words, locks_count, locks_words, records_words, word_count, words_of}
use Rattle.apex_forms.specs.Terms.{OpenWork, Record}

pub length-core : (begun : Option OpenWork) (turns worked : ℕ) → length (core_words begun turns worked) ≡ 5
length-core None turns worked = refl
length-core (Some o) turns worked = refl

pub length-cores : (n : ℕ) (s : Paced) → length (cores_words n s) ≡ n * 5
length-cores zero s = refl
length-cores (suc n) s =
    let part = core_words (s.situation.works n) (s.turns n) (s.worked n) in
    let rest = length-cores n s in
    let one = length-core (s.situation.works n) (s.turns n) (s.worked n) in
    length-append (cores_words n s) part ∙ ap (λ k. length (cores_words n s) + k) one
    ∙ ap (λ k. k + 5) rest ∙ omega arith

pub core_words_same : (begun other : Option OpenWork) (a b c d : ℕ)
    → begun ≡ other → a ≡ b → c ≡ d → core_words begun a c ≡ core_words other b d
core_words_same begun other a b c d e f g = rw (e, f, g)

-- one core more
pub core_put : (n : ℕ) (s : Paced) (part : List ℕ) (at mid end : ℕ) (old between new : List ℕ)
    → part ≡ core_words (s.situation.works n) (s.turns n) (s.worked n)
    → IsPut (cores_words n s) at old mid between → IsPut part mid between end new
    → IsPut (cores_words (n + 1) s) at old end new
core_put n s part at mid end old between new is first second =
    rw (add-one n) (subst (λ (w : List ℕ). IsPut (cores_words n s ++ w) at old end new) is
    (both_put (cores_words n s) part at mid end old between new first second))

pub length-record : (created : _) (r : Record) → length (record_words created r) ≡ 11
length-record created r = refl

pub length-records : (os : List ProcessObject) (rs : List Record) → length os ≡ length rs
    → length (records_words os rs) ≡ length rs * 11
length-records [] [] same = refl
length-records [] (r ∷ rs) same = absurd (omega arith)
length-records (o ∷ os) [] same = absurd (omega arith)
length-records (o ∷ os) (r ∷ rs) same =
    let rest = length-records os rs (omega arith) in
    length-append (record_words o.created r) (records_words os rs)
    ∙ ap (λ k. 11 + k) rest ∙ omega arith

-- the words of one process more
records_more : (os : List ProcessObject) (rs : List Record) (i : ℕ) (d : ProcessObject)
    → i < length os → i < length rs
    → records_words (take (suc i) os) (take (suc i) rs)
    ≡ records_words (take i os) (take i rs)
    ++ record_words (get_or os i d).created (get_or rs i nobody)
records_more [] rs i d in_os in_rs = absurd (omega arith)
records_more (o ∷ os) [] i d in_os in_rs = absurd (omega arith)
records_more (o ∷ os) (r ∷ rs) zero d in_os in_rs = append-nil (record_words o.created r)
records_more (o ∷ os) (r ∷ rs) (suc i) d in_os in_rs =
    ap (λ w. record_words o.created r ++ w) (records_more os rs i d (omega arith) (omega arith))
    ∙ sym (append_assoc (record_words o.created r) (records_words (take i os) (take i rs))
    (record_words (get_or os i d).created (get_or rs i nobody)))

pub record_put : (os : List ProcessObject) (rs : List Record) (i : ℕ) (d : ProcessObject)
    (part : List ℕ) (at mid end : ℕ) (old between new : List ℕ) → i < length os → i < length rs
    → part ≡ record_words (get_or os i d).created (get_or rs i nobody)
    → IsPut (records_words (take i os) (take i rs)) at old mid between
    → IsPut part mid between end new
    → IsPut (records_words (take (i + 1) os) (take (i + 1) rs)) at old end new
record_put os rs i d part at mid end old between new in_os in_rs is first second =
    rw (add-one i) (subst (λ (w : List ℕ). IsPut w at old end new)
    (ap (λ w. records_words (take i os) (take i rs) ++ w) is
    ∙ sym (records_more os rs i d in_os in_rs))
    (both_put (records_words (take i os) (take i rs)) part at mid end old between new first second))

-- the words of the first processes
pub length-first : (os : List ProcessObject) (rs : List Record) (i : ℕ)
    → i ≤ length os → i ≤ length rs
    → length (records_words (take i os) (take i rs)) ≡ i * 11
length-first os rs i in_os in_rs =
    let one = length-take-le i os in_os in
    let other = length-take-le i rs in_rs in
    length-records (take i os) (take i rs) (one ∙ sym other) ∙ ap (λ k. k * 11) other

-- parts of one length
pub length-parts : {X : Type 0} (f : X → List ℕ) (many : ℕ) → ((x : X) → length (f x) ≡ many)
    → (xs : List X) → length (flat_map f xs) ≡ length xs * many
length-parts f many each [] = omega arith
length-parts f many each (x ∷ xs) =
    let rest = length-parts f many each xs in
    length-append (f x) (flat_map f xs) ∙ ap (λ k. k + length (flat_map f xs)) (each x)
    ∙ ap (λ k. many + k) rest ∙ omega arith

pub length-counted : (objects : Objects) → length (counted_words objects) ≡ counted_count objects
length-counted objects =
    let one = length-parts semaphore_words 2 (λ _. refl) objects.semaphores in
    let other = length-parts buffer_words 17 (λ _. refl) objects.buffers in
    let third = length-parts blackboard_words 2 (λ _. refl) objects.blackboards in
    length-append (flat_map semaphore_words objects.semaphores ++ flat_map buffer_words objects.buffers)
    (flat_map blackboard_words objects.blackboards)
    ∙ ap (λ k. k + length (flat_map blackboard_words objects.blackboards))
    (length-append (flat_map semaphore_words objects.semaphores) (flat_map buffer_words objects.buffers))
    ∙ omega arith

pub length-locks : (objects : Objects) → length (locks_words objects) ≡ locks_count objects
length-locks objects =
    let one = length-parts event_flag_words 2 (λ _. refl) objects.event_flags in
    let other = length-parts mutex_words 1 (λ _. refl) objects.mutexes in
    length-append (flat_map event_flag_words objects.event_flags)
    (flat_map mutex_words objects.mutexes) ∙ omega arith

-- all words are put
pub all_put : (part : List ℕ) (end : ℕ) (old new : List ℕ) → length part ≡ length old
    → IsPut part 0 old end new → new ≡ part
all_put part end old new many put =
    sym (take_all end new (omega arith)) ∙ put.words

-- the number of all words
pub sum-words : (table : Table) (s : Paced) → FitsWords table s
    → 3 + length (cores_words table.cores s)
    + length (records_words s.situation.objects.processes s.situation.roster.records)
    + length (counted_words s.situation.objects) + length (locks_words s.situation.objects)
    ≡ word_count table
sum-words table s fits =
    let first = length-cores table.cores s in
    let second = length-records s.situation.objects.processes s.situation.roster.records
    (fits.objects.processes ∙ sym fits.many) in
    let third = length-counted s.situation.objects in
    let fourth = length-locks s.situation.objects in
    let semaphores = fits.objects.semaphores in
    let buffers = fits.objects.buffers in
    let blackboards = fits.objects.blackboards in
    let event_flags = fits.objects.event_flags in
    let mutexes = fits.objects.mutexes in
    let many = fits.many in
    omega arith

pub length-words : (table : Table) (s : Paced) → FitsWords table s
    → length (words_of table s) ≡ word_count table
length-words table s fits =
    let cores = cores_words table.cores s in
    let records = records_words s.situation.objects.processes s.situation.roster.records in
    let counted = counted_words s.situation.objects in
    let locks = locks_words s.situation.objects in
    let one = length-append (head_words s ++ cores ++ records ++ counted) locks in
    let two = length-append (head_words s ++ cores ++ records) counted in
    let three = length-append (head_words s ++ cores) records in
    let four = length-append (head_words s) cores in
    let sum = sum-words table s fits in
    omega arith

pub words_put : (table : Table) (s : Paced) (old one two three four five : List ℕ)
    (a b c d e : ℕ) → length (words_of table s) ≡ length old
    → IsPut (head_words s) 0 old a one
    → IsPut (cores_words table.cores s) a one b two
    → IsPut (records_words s.situation.objects.processes s.situation.roster.records) b two c three
    → IsPut (counted_words s.situation.objects) c three d four
    → IsPut (locks_words s.situation.objects) d four e five
    → five ≡ words_of table s
words_put table s old one two three four five a b c d e many head cores records counted locks =
    let first = head_words s in
    let second = cores_words table.cores s in
    let third = records_words s.situation.objects.processes s.situation.roster.records in
    let fourth = counted_words s.situation.objects in
    let last = locks_words s.situation.objects in
    all_put (words_of table s) e old five many
    (both_put (first ++ second ++ third ++ fourth) last 0 d e old four five
    (both_put (first ++ second ++ third) fourth 0 c d old three four
    (both_put (first ++ second) third 0 b c old two three
    (both_put first second 0 a b old one two head cores) records) counted) locks)
