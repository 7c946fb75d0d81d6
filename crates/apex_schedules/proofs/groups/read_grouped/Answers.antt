-- One more word is taken or refused, or the text ends in a group.
use Rattle.std.proofs.Common.{◌≡◌, ◌<◌, Option, Ok, Err, length, arith, refl, subst}
use Rattle.std.proofs.lemmas.Bool.Decides.{nat_tests}
use Rattle.apex_schedules.specs.declared.pieces.Piece.{Piece}
use Rattle.apex_schedules.specs.Groups.{piece_of}
use Rattle.apex_schedules.specs.Readings.{IsTaken}
use Rattle.apex_schedules.proofs.Taken.{ends_open, piece_refused, piece_taken, rest_behind}
use Rattle.apex_schedules.proofs.groups.read_grouped.Goals as goal

pub returns-in-Err-clause-fault : goal.returns-in-Err-clause-fault
returns-in-Err-clause-fault c =
    let loop = c.loop-rest.invariant in
    let old = c.loop-rest.reading in
    let new = c.take.new.self in
    let word = c.cut_word.result.0.now in
    let refusal = c.in-Err.refusal in
    let some : 0 < length word = grind (arith, nat_tests, c.is_empty-in-loop-rest.ensures, c.if-not-is_empty.true) in
    let refused : IsTaken old.items.items old.starts.items (piece_of word) (Err refusal) new.items.items new.starts.items =
    subst (λ (piece : Option Piece). IsTaken old.items.items old.starts.items piece (Err refusal) new.items.items new.starts.items)
    c.read_piece.ensures c.in-Err.ensures in
    rw c.at.ensures
    (piece_refused loop.taken word c.cut_word.result.1.now some c.cut_word.ensures.words refusal _ _ refused loop.reading _
    (omega (arith, loop.left), loop.some, omega (arith, loop.left, loop.few)) loop.rest (c.cut_word.ensures.begins some) refl)

pub loop-rest-preserved-in_default : goal.loop-rest-preserved-in_default
loop-rest-preserved-in_default c =
    let loop = c.loop-rest.invariant in
    let old = c.loop-rest.reading in
    let new = c.take.new.self in
    let word = c.cut_word.result.0.now in
    let done = c.in_default.field-0 in
    let some : 0 < length word = grind (arith, nat_tests, c.is_empty-in-loop-rest.ensures, c.if-not-is_empty.true) in
    let taken : IsTaken old.items.items old.starts.items (piece_of word) (Ok done) new.items.items new.starts.items =
    subst (λ (piece : Option Piece). IsTaken old.items.items old.starts.items piece (Ok done) new.items.items new.starts.items)
    c.read_piece.ensures c.in_default.ensures in
    record {
      taken = rw c.items_in-item.ensures.value (piece_taken loop.taken word c.cut_word.result.1.now some c.cut_word.ensures.words done _ _ taken);
      reading = taken.0;
      left = omega (arith, loop.left, c.cut_word.ensures.shorter);
      rest = rest_behind _ _ _ loop.left c.cut_word.ensures.shorter loop.rest c.cut_word.ensures.rest;
      some = omega (arith, loop.some);
      few = omega (arith, loop.few, c.cut_word.ensures.shorter, c.items_in-item.ensures.most);
    }

pub returns-then-not-is_empty-2-clause-fault : goal.returns-then-not-is_empty-2-clause-fault
returns-then-not-is_empty-2-clause-fault c =
    let loop = c.loop-rest.invariant in
    let none : length c.loop-rest.rest.now ≡ 0 = grind (arith, nat_tests, c.is_empty.ensures, c.loop-rest-test.false) in
    let some : 0 < length c.loop-rest.reading.starts.items = grind (arith, nat_tests, c.is_empty-2.ensures, c.if-not-is_empty-2.true) in
    ends_open c.loop-rest.rest.now none loop.taken loop.reading some _
    (omega arith, loop.some, omega (arith, loop.few, none)) refl refl
