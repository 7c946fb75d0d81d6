use Rattle.std.proofs.Common.{◌≡◌, ◌≤◌, ◌<◌, ◌+◌, ◌∙◌, ◌∷◌, ℕ, [], ap, get_or, length, sym, arith}
use Rattle.std.proofs.lemmas.List.{length-set, take_all}
use Rattle.apex_types.specs.declared.limits.TheConstants.{MOST_MESSAGES}
use Rattle.apex_forms.specs.Codes.{flag_word}
use Rattle.apex_forms.specs.Objects.{messages_words}
use Rattle.apex_forms.proofs.BufferWords.{first_word, message_more, zero_more}
use Rattle.apex_forms.proofs.objects.put_buffer.Goals as goal

pub loop-place-init : goal.loop-place-init
loop-place-init c =
    let words = c.args.words.now in
    let flag = c.flag_word.result in
    record {
      written = first_word words flag (omega arith) ∙ ap (λ (w : ℕ). w ∷ []) (c.flag_word.ensures ∙ ap flag_word c.is_created.ensures);
      many = length-set words 0 flag ∙ c.requires;
    }

pub loop-place-preserved : goal.loop-place-preserved
loop-place-preserved c =
    let messages = c.args.buffer.now.messages in
    let words = c.loop-place.words in
    let place = c.loop-place.place in
    let word = c.message_word.result in
    let message = c.index-messages-place.result in
    let all : c.messages-messages.result.now ≡ messages = c.messages-messages.ensures.value in
    let inside : place < length messages = rw all at c.loop-place-test.true in
    let at : message ≡ get_or messages place message = rw all at c.index-messages-place.is in
    record {
      written = message_more messages words (flag_word c.args.buffer.now.created) place (omega arith)
          c.loop-place.invariant.written word message inside at c.message_word.ensures;
      many = length-set words (1 + place) word ∙ c.loop-place.invariant.many;
    }

pub loop-behind-preserved : goal.loop-behind-preserved
loop-behind-preserved c =
    let messages = c.args.buffer.now.messages in
    let words = c.loop-behind.words in
    let behind = c.loop-behind.behind in
    let none : length messages ≤ behind = c.loop-behind.invariant.none in
    record {
      written = zero_more messages words (flag_word c.args.buffer.now.created) behind (omega arith) c.loop-behind.invariant.written none;
      many = length-set words (1 + behind) 0 ∙ c.loop-behind.invariant.many;
      none = omega arith;
    }

pub returns : goal.returns
returns c =
    let messages = c.args.buffer.now.messages in
    let words = c.loop-behind.words in
    let behind = c.loop-behind.behind in
    let flag = flag_word c.args.buffer.now.created in
    let end : behind ≡ MOST_MESSAGES = omega arith in
    sym (take_all (1 + behind) words (omega arith))
    ∙ c.loop-behind.invariant.written
    ∙ ap (λ (n : ℕ). flag ∷ messages_words messages n) end
