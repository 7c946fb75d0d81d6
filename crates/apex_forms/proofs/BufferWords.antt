-- The words of a buffer, one word more.
use Rattle.std.proofs.Common.{◌≡◌, ℕ, ◌+◌, ◌<◌, ◌≤◌, List, [], ◌∷◌, ◌++◌, length, get_or, take, slice_set, slice_get, refl, ap, sym, ◌∙◌, add-one, arith, Some}
use Rattle.std.proofs.lemmas.List.{take_more_set}
use Rattle.std.proofs.lemmas.Option.{slice_get_past, slice_get_read}
use Rattle.apex_forms.specs.Codes.{message_word}
use Rattle.apex_forms.specs.Objects.{messages_words}
use Rattle.apex_forms.specs.Terms.{Message}

-- the first word
pub first_word : (words : List ℕ) (flag : ℕ) → 0 < length words
    → take 1 (slice_set words 0 flag) ≡ flag ∷ []
first_word words flag some = take_more_set words 0 flag some

module _ (messages : List Message) (words : List ℕ) (flag place : ℕ)
    (within : 1 + place < length words)
    (so_far : take (1 + place) words ≡ flag ∷ messages_words messages place) where
  word_more : (word : ℕ) → word ≡ message_word (slice_get messages place)
      → take (1 + (place + 1)) (slice_set words (1 + place) word)
      ≡ flag ∷ messages_words messages (place + 1)
  word_more word is =
      let next : 1 + (place + 1) ≡ (1 + place) + 1 = omega arith in
      ap (λ (n : ℕ). take n (slice_set words (1 + place) word)) next
      ∙ take_more_set words (1 + place) word within
      ∙ ap (λ (part : List ℕ). part ++ word ∷ []) so_far
      ∙ ap (λ (w : ℕ). (flag ∷ messages_words messages place) ++ w ∷ []) is
      ∙ ap (λ (n : ℕ). flag ∷ messages_words messages n) (sym (add-one place))

  -- that of a message
  pub message_more : (word : ℕ) (message : Message) → place < length messages
      → message ≡ get_or messages place message → word ≡ message_word (Some message)
      → take (1 + (place + 1)) (slice_set words (1 + place) word)
      ≡ flag ∷ messages_words messages (place + 1)
  message_more word message inside at is =
      word_more word (is ∙ ap message_word (sym (slice_get_read messages (length messages) place message refl inside at)))

  -- a zero, behind the messages
  pub zero_more : length messages ≤ place
      → take (1 + (place + 1)) (slice_set words (1 + place) 0)
      ≡ flag ∷ messages_words messages (place + 1)
  zero_more past = word_more 0 (ap message_word (sym (slice_get_past messages place past)))
