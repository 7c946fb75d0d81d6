use Rattle.std.proofs.Common.{◌≡◌, ℕ, ◌+◌, ◌<◌, ◌≤◌, List, [], ◌∷◌, ◌∙◌, ap, refl, subst, sym, arith, None}
use mathlib.Core.List.{IsPrefix}
use Rattle.apex_receipts.specs.declared.law.Note.{Note}
use Rattle.apex_receipts.specs.Notes.{said, written}
use Rattle.apex_receipts.proofs.Calls.{heard_most, said_more}
use Rattle.apex_receipts.proofs.Prefixes.{prefix_trans}
use Rattle.apex_receipts.proofs.meetings.write_for.Goals as goal

pub write-requires-clause-called : goal.write-requires-clause-called
write-requires-clause-called c =
    let l = c.args.scribe.now.id in
    let o = c.args.voice.now.id in
    let own = c.args.scribe.now.log in
    let known = c.learn.new.self.log in
    let said_it = c.call.ensures.said.1 in
    let same : c.again-known.result.log ≡ own = ap {B = List Note} (λ s. s.log) c.again-known.ensures ∙ c.seen.ensures.log in
    let begins : IsPrefix own known = subst (λ (m : List Note). IsPrefix m known) same c.learn.ensures.2 in
    let most : written l o own ≤ said o c.args.voice.now.log = heard_most l o own c.args.voice.now.log known said_it.before begins said_it.heard in
    let more : said o c.call.new.self.log ≡ said o c.args.voice.now.log + 1 =
    said_more c.args.voice.now.log known c.call.new.self.log (record { by = o; of = o; entry = None; key = c.call.ensures.said.0 }) said_it in
    let less : written l o own < said o c.call.new.self.log = omega (arith, most, more) in
    subst (λ (k : ℕ). written l k own < said k c.call.new.self.log) (sym c.call.ensures.id) less

pub returns-clause-written : goal.returns-clause-written
returns-clause-written c =
    let l = c.args.scribe.now.id in
    let o = c.args.voice.now.id in
    let own = c.args.scribe.now.log in
    let known = c.learn.new.self.log in
    let called = c.call.ensures.said.1 in
    let wrote = c.write.ensures.said.1 in
    let whole = c.call.new.self.log in
    let same : c.again-known.result.log ≡ own = ap {B = List Note} (λ s. s.log) c.again-known.ensures ∙ c.seen.ensures.log in
    let begins : IsPrefix own known = subst (λ (m : List Note). IsPrefix m known) same c.learn.ensures.2 in
    let there : IsPrefix called.before whole = (record { by = o; of = o; entry = None; key = c.call.ensures.said.0 } ∷ [], sym called.added) in
    let first : IsPrefix c.args.heard.now.log called.before = prefix_trans c.args.heard.now.log known called.before c.learn.ensures.3 called.heard.knew in
    record {
      before = wrote.before;
      met = record {
        alone = wrote.heard.alone;
        knew =
            prefix_trans c.args.heard.now.log whole wrote.before (prefix_trans c.args.heard.now.log called.before whole first there) wrote.heard.knew;
        most = heard_most l o own c.args.voice.now.log known called.before begins called.heard;
      };
      note = _;
      by = refl;
      of = c.call.ensures.id;
      entry = refl;
      added = wrote.added;
    }
