use Rattle.std.proofs.Common.{◌≡◌, true, List, length, ◌∙◌, ap, sym, arith}
use Rattle.apex_types.specs.declared.entries.Entry.{Entry}
use Rattle.apex_types.specs.declared.entries.Who.{Who}
use Rattle.apex_receipts.specs.Notes.{entries_of}
use Rattle.apex_receipts.specs.Receipts.{Spoken, own_entries}
use Rattle.apex_receipts.specs.Rules.{HasMet}
use Rattle.apex_receipts.proofs.Alone.{alone_ends, alone_entries}
use Rattle.apex_receipts.proofs.Exact.{exact, met_within}
use Rattle.apex_receipts.proofs.Written.{labelled_alone}
use Rattle.apex_receipts.proofs.scribes.Scribe.settle.Given.{Over}
use Rattle.apex_receipts.proofs.scribes.Scribe.settle.Goals.{After-meet}
use Rattle.apex_receipts.proofs.scribes.Scribe.settle.Goals as goal

-- the scribe and the voice have met, by the names that the partition gives its speakers
met : (g : Over) (c : After-meet g) →
    let v = c.voice.inside in
    HasMet g.P.Naming.scribe (g.P.Naming.voice v.who) c.self.inside.speaker.log v.speaker.log v.heard.log c.meet.new.scribe.log
met g c = rw (c.self.invariant.1, c.voice.invariant.1) at c.meet.ensures.met

pub invariant_of-self : goal.invariant_of-self
invariant_of-self g c =
    let kept = c.self.invariant in
    let alone = (met g c).alone in (
      c.meet.ensures.books.0 ∙ kept.0,
      c.meet.ensures.ids.0 ∙ kept.1,
      kept.2,
      labelled_alone _ _ _ _ alone kept.3,
      alone_ends _ _ _ alone ∙ kept.4,
    )

pub returns-clause-same : goal.returns-clause-same
returns-clause-same g c = alone_entries _ _ _ (met g c).alone ∙ c.self.view_is

pub returns-clause-own : goal.returns-clause-own
returns-clause-own g c =
    let v = c.voice.inside in
    let spoke = c.voice.invariant in
    let same = exact _ _ _ _ _ _ _ (met g c) v.count c.self.invariant.3 spoke.3 spoke.4 in
    let who : v.who ≡ c.args.voice.now.who = ap (λ (s : Spoken). s.who) c.voice.view_is in
    let mine : own_entries v.who (entries_of g.P.Naming.scribe v.heard.log) ≡ c.args.voice.now.own = ap (λ (s : Spoken). s.own) c.voice.view_is in
    ap (λ (w : Who). own_entries w c.args.self.now) (sym who)
    ∙ (ap (λ (es : List Entry). own_entries v.who es) (sym c.self.view_is) ∙ (same ∙ mine))

pub returns-clause-told : goal.returns-clause-told
returns-clause-told g c is =
    let told : c.voice.inside.told ≡ true = ap (λ (s : Spoken). s.told) c.voice.view_is ∙ is in
    omega (arith, c.voice.invariant.5 told, met_within g.P.Naming.scribe g.P.Naming.voice c.voice.inside.who _ _ _ _ (met g c), ap length c.self.view_is, c.requires.room)
