-- The messages that a buffer holds after calls of it: those that were sent, without the first ones,
-- one for each receive.
use Rattle.std.proofs.Common.{◌≡◌, ◌+◌, true, false, if◌then◌else◌, drop, length, count_by, List, [], ◌∷◌, ◌++◌, None, Some, sym, ◌∙◌, arith, append_assoc, append-nil, length-append}
use Rattle.std.specs.List.{filter_map}
use Rattle.std.proofs.Math.Seq.{drop-append_seam}
use Rattle.std.proofs.lemmas.List.Elements.{filter_map-append}
use Rattle.std.proofs.lemmas.List.Sums.{sum_by-append}
use Rattle.apex_laws.specs.Terms.{Call, Message}
use Rattle.apex_machine.specs.services.Calls.{is_receive, sent_message}

-- the messages that were sent are first as many as were received, and then those that the buffer
-- holds
pub record IsDelivered (calls : List Call) (content : List Message) : Type 0 where
  pub taken : List Message
  pub many : length taken ≡ count_by is_receive calls
  pub split : filter_map sent_message calls ≡ taken ++ content

pub delivered_content : {calls : List Call} {content : List Message} → IsDelivered calls content
    → drop (count_by is_receive calls) (filter_map sent_message calls) ≡ content
delivered_content {calls} {content} delivered =
    rw (delivered.split, ← delivered.many) (drop-append_seam delivered.taken content)

module _ (calls : List Call) (content : List Message) (c : Call) where
  counted : count_by is_receive (calls ++ c ∷ []) ≡ count_by is_receive calls + (if is_receive c then 1 else 0)
  counted = let all = sum_by-append (λ (c : Call). if is_receive c then 1 else 0) calls (c ∷ []) in omega (arith, all)

  -- a message more is sent, and goes last
  pub delivered_sent : (message : Message) → IsDelivered calls content → is_receive c ≡ false → sent_message c ≡ Some message
      → IsDelivered (calls ++ c ∷ []) (content ++ message ∷ [])
  delivered_sent message delivered receives sends = record {
    taken = delivered.taken;
    many = let all = counted in omega (arith, delivered.many, rw receives at all);
    split = filter_map-append sent_message calls (c ∷ []) ∙ rw (delivered.split, sends) (append_assoc delivered.taken content (message ∷ []));
  }

  -- a call of it that sends and receives nothing
  pub delivered_none : IsDelivered calls content → is_receive c ≡ false → sent_message c ≡ None → IsDelivered (calls ++ c ∷ []) content
  delivered_none delivered receives sends = record {
    taken = delivered.taken;
    many = let all = counted in omega (arith, delivered.many, rw receives at all);
    split = filter_map-append sent_message calls (c ∷ []) ∙ rw (delivered.split, sends) (append-nil (delivered.taken ++ content));
  }

-- the first message is received
pub delivered_received : (calls : List Call) (message : Message) (later : List Message) (c : Call) → IsDelivered calls (message ∷ later)
    → is_receive c ≡ true → sent_message c ≡ None → IsDelivered (calls ++ c ∷ []) later
delivered_received calls message later c delivered receives sends = record {
  taken = delivered.taken ++ message ∷ [];
  many = let all = counted calls later c in
      let longer = length-append delivered.taken (message ∷ []) in omega (arith, delivered.many, longer, rw receives at all);
  split = filter_map-append sent_message calls (c ∷ []) ∙ rw (delivered.split, sends)
      (append-nil (delivered.taken ++ message ∷ later) ∙ sym (append_assoc delivered.taken (message ∷ []) later));
}
