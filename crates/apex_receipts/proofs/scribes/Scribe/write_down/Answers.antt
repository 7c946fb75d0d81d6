use Rattle.std.proofs.Common.{◌≡◌, ℕ, ◌+◌, List, [], ◌∷◌, ◌++◌, length, ◌∙◌, ap, sym, arith}
use Rattle.apex_types.specs.declared.entries.Entry.{Entry}
use Rattle.apex_receipts.specs.declared.law.Note.{Note}
use Rattle.apex_receipts.specs.Notes.{ends, entries_of, said}
use Rattle.apex_receipts.specs.Receipts.{Spoken, count_who, own_entries}
use Rattle.apex_receipts.proofs.Exact.{IsRecorded, recorded}
use Rattle.apex_receipts.proofs.scribes.Scribe.write_down.Given.{Over}
use Rattle.apex_receipts.proofs.scribes.Scribe.write_down.Goals.{After-write_for}
use Rattle.apex_receipts.proofs.scribes.Scribe.write_down.Goals as goal

-- the entry was written down for the voice, by the names that the partition gives its speakers
wrote : (g : Over) (c : After-write_for g) →
    let v = c.voice.inside in
    IsRecorded g.P.Naming.scribe g.P.Naming.voice v.who c.self.inside.speaker.log v.heard.log v.count c.args.entry.now c.write_for.new.scribe.log
wrote g c =
    let maker = c.requires.who ∙ sym (ap (λ (s : Spoken). s.who) c.voice.view_is) in
    let written = rw (c.self.invariant.1, c.voice.invariant.1) at c.write_for.ensures.written in
    recorded _ _ _ _ _ _ _ _ _ written maker c.self.invariant.3 c.voice.invariant.3 c.voice.invariant.4

pub overflow_add-voice : goal.overflow_add-voice
overflow_add-voice g c =
    let w = wrote g (goal.at.overflow_add-voice g c).After-write_for in
    omega (arith, w.few, w.within, ap length c.self.view_is, c.requires.room, c.requires.few_entries)

pub invariant_of-self : goal.invariant_of-self
invariant_of-self g c =
    let w = wrote g (goal.at.invariant_of-self g c).After-write_for in
    let kept = c.self.invariant in
    (c.write_for.ensures.books.0 ∙ kept.0, c.write_for.ensures.ids.0 ∙ kept.1, kept.2, w.labelled, w.unended ∙ kept.4)

pub invariant_of-voice : goal.invariant_of-voice
invariant_of-voice g c =
    let w = wrote g (goal.at.invariant_of-voice g c).After-write_for in
    let v = c.voice.inside in
    let spoke = c.voice.invariant in
    let seen : c.again.result.log ≡ c.write_for.new.scribe.log = ap {B = List Note} (λ s. s.log) c.again.ensures ∙ c.seen.ensures.log in (
      c.write_for.ensures.books.1 ∙ spoke.0,
      c.write_for.ensures.ids.1 ∙ spoke.1,
      ap (λ s. s.book) c.again.ensures ∙ (c.seen.ensures.book ∙ (c.write_for.ensures.books.0 ∙ c.self.invariant.0)),
      omega (
        arith,
        ap (λ (k : ℕ). said k c.write_for.new.voice.log) spoke.1,
        ap (λ (k : ℕ). said k v.speaker.log) spoke.1,
        c.write_for.ensures.voice,
        spoke.3,
      ),
      sym (ap (λ (m : List Note). count_who v.who (entries_of g.P.Naming.scribe m)) seen ∙ w.counted),
      λ told. absurd (omega (arith, spoke.5 told, w.within, ap length c.self.view_is, c.requires.room)),
    )

pub returns-clause-book : goal.returns-clause-book
returns-clause-book g c =
    ap (λ s. s.book) (c.again-2.ensures ∙ c.again.ensures)
    ∙ (c.seen.ensures.book ∙ (c.write_for.ensures.books.0 ∙ c.self.invariant.0))

pub returns-clause-placed : goal.returns-clause-placed
returns-clause-placed g c =
    let l = g.P.Naming.scribe in
    let w = wrote g (goal.at.returns-clause-placed g c).After-write_for in
    let number : c.args.entry.now.number ≡ length (entries_of l c.self.inside.speaker.log) + 1 =
    omega (arith, c.requires.number, ap length c.self.view_is) in
    let seen : c.again-2.result.log ≡ c.write_for.new.scribe.log =
    ap {B = List Note} (λ s. s.log) (c.again-2.ensures ∙ c.again.ensures) ∙ c.seen.ensures.log in
    let count : c.voice.inside.count ≡ length c.args.voice.now.own =
    c.voice.invariant.4 ∙ ap (λ (s : Spoken). length s.own) c.voice.view_is in
    rw (seen, ← count) (w.stands number)

pub returns-clause-unended : goal.returns-clause-unended
returns-clause-unended g c =
    let l = g.P.Naming.scribe in
    let w = wrote g (goal.at.returns-clause-unended g c).After-write_for in
    let seen : c.again-2.result.log ≡ c.write_for.new.scribe.log =
    ap {B = List Note} (λ s. s.log) (c.again-2.ensures ∙ c.again.ensures) ∙ c.seen.ensures.log in
    ap (λ (m : List Note). ends l m) seen ∙ (w.unended ∙ c.self.invariant.4)

pub returns-clause-history : goal.returns-clause-history
returns-clause-history g c = (wrote g (goal.at.returns-clause-history g c).After-write_for).entries ∙ ap (λ (es : List Entry). es ++ c.args.entry.now ∷ []) c.self.view_is

pub returns-clause-voice : goal.returns-clause-voice
returns-clause-voice g c =
    let v = c.voice.inside in
    let e = c.args.entry.now in
    let seen : c.again.result.log ≡ c.write_for.new.scribe.log = ap {B = List Note} (λ s. s.log) c.again.ensures ∙ c.seen.ensures.log in
    let more : own_entries v.who (entries_of g.P.Naming.scribe c.again.result.log) ≡ own_entries v.who (entries_of g.P.Naming.scribe v.heard.log) ++ e ∷ [] =
    ap (λ (m : List Note). own_entries v.who (entries_of g.P.Naming.scribe m)) seen ∙ (wrote g (goal.at.returns-clause-voice g c).After-write_for).more in
    ap {B = Spoken} (λ (es : List Entry). record { who = v.who; own = es; told = v.told }) more
    ∙ ap {B = Spoken} (λ (s : Spoken). record { who = s.who; own = s.own ++ e ∷ []; told = s.told }) c.voice.view_is
