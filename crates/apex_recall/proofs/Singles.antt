-- Single values are those of their words.
use Rattle.std.proofs.Common.{◌≡◌, ℕ, ◌+◌, ◌*◌, ◌%◌, ◌/◌, ◌^◌, ◌<◌, Bool, true, false, List, [], ◌∷◌, ◌++◌, length, get_or, slice_get, slice_index, take, ap, ◌∙◌, refl, arith, zero, suc, w64, Option, None, Some}
use Rattle.std.specs.Prelude.{is_some, IfSome, ◌==◌, if◌then◌else◌}
use Rattle.std.specs.Int.{from_le_bytes, to_le_bytes}
use Rattle.std.specs.List.{cons_option, filter_map}
use Rattle.std.proofs.lemmas.List.Elements.{filter_map-append}
use Rattle.std.proofs.lemmas.Nat.{le_bytes_8}
use Rattle.apex_machine.specs.declared.records.Suspender.TheVariants.{Itself, Other}
use Rattle.apex_machine.specs.declared.records.Wait.TheVariants as waits
use Rattle.apex_forms.specs.Codes.{code_of, flag_word, holding_word, instant_word, message_word, mode_word, origin_word, suspender_byte}
use Rattle.apex_recall.specs.Values.{holding_in, instant_in, is_set, message_in, mode_in, origin_in, sending, suspender_in, wait_of}
use Rattle.apex_recall.specs.Reached.{FitsHolding, FitsOrigin, HeldFit, MessagesFit, ShownFits, WaitFits}
use Rattle.apex_recall.specs.Terms.{Holding, Message, Mode, Origin, Suspender, Wait}
use Rattle.apex_types.specs.declared.calls.Origin.TheVariants.{Init, Script}
use Rattle.apex_types.specs.declared.modes.Mode.TheVariants.{Idle, ColdStart, Normal}

pub flag_back : (flag : Bool) → is_set (flag_word flag) ≡ flag
flag_back true = refl
flag_back false = refl

pub mode_back : (mode : Mode) → mode_in (mode_word mode) ≡ mode
mode_back Idle = refl
mode_back ColdStart = refl
mode_back Normal = refl

pub suspender_back : (by : Option Suspender) → suspender_in (suspender_byte by) ≡ by
suspender_back None = refl
suspender_back (Some Itself) = refl
suspender_back (Some Other) = refl

pub suspender_small : (by : Option Suspender) → suspender_byte by < 256
suspender_small None = omega arith
suspender_small (Some Itself) = omega arith
suspender_small (Some Other) = omega arith

pub flag_small : (flag : Bool) → flag_word flag < 256
flag_small true = omega arith
flag_small false = omega arith

pub instant_back : (instant : Option ℕ)
    → instant_in (flag_word (is_some instant) == 1) (instant_word instant) ≡ instant
instant_back None = refl
instant_back (Some t) = refl

-- each is a byte
abbrev pub AreBytes : List ℕ → Type 0
AreBytes [] = Unit {0}
AreBytes (b ∷ bs) = (b < 256) × AreBytes bs

byte_at : (bs : List ℕ) → AreBytes bs → (i : ℕ) → get_or bs i 0 < 256
byte_at [] small i = omega arith
byte_at (b ∷ bs) small zero = small.0
byte_at (b ∷ bs) small (suc i) = byte_at bs small.1 i

pub bytes_back : (bs : List ℕ) → length bs ≡ 8 → AreBytes bs
    → to_le_bytes w64 (from_le_bytes w64 bs) ≡ bs
bytes_back bs eight small = le_bytes_8 bs (from_le_bytes w64 bs) eight (byte_at bs small) refl

-- the message of these bytes
abbrev pub message_of : List ℕ → Option Message
message_of bytes =
    if slice_index bytes 0 == 0 then None
    else Some (record {
      origin = origin_in (slice_index bytes 0) (slice_index bytes 2) (slice_index bytes 3);
      length = slice_index bytes 1;
    })

origin_back : (size : ℕ) (origin : Origin) → FitsOrigin origin → size < 256
    → message_in (origin_word size origin) ≡ Some (record { origin = origin; length = size })
origin_back size (Init place) fits small =
    let low : place % 256 < 256 = omega arith in
    let high : place / 256 < 256 = omega arith in
    let whole : place % 256 + 256 * (place / 256) ≡ place = omega arith in
    let one : 1 < 256 = omega arith in
    let none : 0 < 256 = omega arith in
    let bytes : List ℕ = 1 ∷ size ∷ place % 256 ∷ place / 256 ∷ 0 ∷ 0 ∷ 0 ∷ 0 ∷ [] in
    ap message_of (bytes_back bytes refl
    (one, (small, (low, (high, (none, (none, (none, (none, tt)))))))))
    ∙ ap (λ (p : ℕ). Some (record { origin = Init p; length = size })) whole
origin_back size (Script process place) fits small =
    let two : 2 < 256 = omega arith in
    let none : 0 < 256 = omega arith in
    let bytes : List ℕ = 2 ∷ size ∷ place ∷ process ∷ 0 ∷ 0 ∷ 0 ∷ 0 ∷ [] in
    ap message_of (bytes_back bytes refl
    (two, (small, (fits.1, (fits.0, (none, (none, (none, (none, tt)))))))))

pub message_back : (message : Option Message) → ShownFits message
    → message_in (message_word message) ≡ message
message_back None fits = refl
message_back (Some message) fits = origin_back message.length message.origin fits.0 fits.1

-- the mutex of these bytes
abbrev pub holding_of : List ℕ → Option Holding
holding_of bytes =
    if slice_index bytes 0 == 0 then None
    else Some (record {
      mutex = slice_index bytes 1;
      ceiling = slice_index bytes 2;
      depth = slice_index bytes 3;
    })

pub holding_back : (held : Option Holding) → IfSome held FitsHolding
    → holding_in (holding_word held) ≡ held
holding_back None fits = refl
holding_back (Some held) fits =
    let one : 1 < 256 = omega arith in
    let none : 0 < 256 = omega arith in
    let bytes : List ℕ = 1 ∷ held.mutex ∷ held.ceiling ∷ held.depth ∷ 0 ∷ 0 ∷ 0 ∷ 0 ∷ [] in
    ap holding_of (bytes_back bytes refl
    (one, (fits.mutex, (fits.ceiling, (fits.depth, (none, (none, (none, (none, tt)))))))))

pub wait_back : (wait : Option Wait) → WaitFits wait
    → wait_of (code_of wait).kind (code_of wait).place (code_of wait).word ≡ wait
wait_back None fits = refl
wait_back (Some (waits.Normal delay)) fits =
    let same : delay % 2 ^ 32 ≡ delay = omega arith in
    ap (λ (d : ℕ). Some (waits.Normal d)) same
wait_back (Some waits.Start) fits = refl
wait_back (Some waits.Time) fits = refl
wait_back (Some waits.Period) fits = refl
wait_back (Some (waits.Semaphore s)) fits = refl
wait_back (Some (waits.Receive b)) fits = refl
wait_back (Some (waits.Send b message)) fits = ap (sending b) (message_back (Some message) fits.1)
wait_back (Some (waits.Blackboard b)) fits = refl
wait_back (Some (waits.EventFlag e)) fits = refl
wait_back (Some (waits.Mutex m)) fits = refl

pub kind_small : (wait : Option Wait) → (code_of wait).kind < 256
kind_small None = omega arith
kind_small (Some (waits.Normal delay)) = omega arith
kind_small (Some waits.Start) = omega arith
kind_small (Some waits.Time) = omega arith
kind_small (Some waits.Period) = omega arith
kind_small (Some (waits.Semaphore s)) = omega arith
kind_small (Some (waits.Receive b)) = omega arith
kind_small (Some (waits.Send b message)) = omega arith
kind_small (Some (waits.Blackboard b)) = omega arith
kind_small (Some (waits.EventFlag e)) = omega arith
kind_small (Some (waits.Mutex m)) = omega arith

pub place_small : (wait : Option Wait) → WaitFits wait → (code_of wait).place < 256
place_small None fits = omega arith
place_small (Some (waits.Normal delay)) fits = omega arith
place_small (Some waits.Start) fits = omega arith
place_small (Some waits.Time) fits = omega arith
place_small (Some waits.Period) fits = omega arith
place_small (Some (waits.Semaphore s)) fits = fits
place_small (Some (waits.Receive b)) fits = fits
place_small (Some (waits.Send b message)) fits = fits.0
place_small (Some (waits.Blackboard b)) fits = fits
place_small (Some (waits.EventFlag e)) fits = fits
place_small (Some (waits.Mutex m)) fits = fits

-- the words of the first n of these
abbrev pub words_to : {X : Type 0} → (Option X → ℕ) → List X → ℕ → List ℕ
words_to word xs zero = []
words_to word xs (suc n) = words_to word xs n ++ word (slice_get xs n) ∷ []

one_more : {X : Type 0} (n : ℕ) (xs : List X)
    → take n xs ++ cons_option (slice_get xs n) [] ≡ take (suc n) xs
one_more zero [] = refl
one_more zero (x ∷ xs) = refl
one_more (suc n) [] = refl
one_more (suc n) (x ∷ xs) = ap (λ l. x ∷ l) (one_more n xs)

kept : {X : Type 0} (word : Option X → ℕ) (back : ℕ → Option X) (xs : List X)
    → ((k : ℕ) → back (word (slice_get xs k)) ≡ slice_get xs k) → (n : ℕ)
    → filter_map back (words_to word xs n) ≡ take n xs
kept word back xs each zero = refl
kept word back xs each (suc n) =
    filter_map-append back (words_to word xs n) (word (slice_get xs n) ∷ [])
    ∙ ap (λ l. l ++ cons_option (back (word (slice_get xs n))) []) (kept word back xs each n)
    ∙ ap (λ o. take n xs ++ cons_option o []) (each n) ∙ one_more n xs

shown_at : (messages : List Message) → MessagesFit messages → (k : ℕ)
    → ShownFits (slice_get messages k)
shown_at [] fits k = tt
shown_at (message ∷ others) fits zero = fits.0
shown_at (message ∷ others) fits (suc k) = shown_at others fits.1 k

held_at : (held : List Holding) → HeldFit held → (k : ℕ) → IfSome (slice_get held k) FitsHolding
held_at [] fits k = tt
held_at (holding ∷ others) fits zero = fits.0
held_at (holding ∷ others) fits (suc k) = held_at others fits.1 k

pub messages_back : (messages : List Message) → MessagesFit messages → (n : ℕ)
    → filter_map message_in (words_to message_word messages n) ≡ take n messages
messages_back messages fits n =
    kept message_word message_in messages
    (λ k. message_back (slice_get messages k) (shown_at messages fits k)) n

pub holdings_back : (held : List Holding) → HeldFit held → (n : ℕ)
    → filter_map holding_in (words_to holding_word held n) ≡ take n held
holdings_back held fits n =
    kept holding_word holding_in held
    (λ k. holding_back (slice_get held k) (held_at held fits k)) n
