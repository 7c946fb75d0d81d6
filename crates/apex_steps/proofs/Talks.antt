-- What was said when a conversation ends, and when it goes on.
use Rattle.std.proofs.Common.{◌≡◌, ◌∙◌, ℕ, true, false, Option, Ok, Err, refl, sym, ap, subst, List, [], ◌++◌, append-nil}
use Rattle.std.specs.Prelude.{if◌then◌else◌}
use Rattle.std.proofs.KnownBytes.{Appends-nil, Appends-trans, Consumes-nil, Consumes-trans}
use Rattle.std.specs.Io.KnownBytes.{Appends, Consumes}
use Rattle.apex_json.specs.declared.Form.{Form}
use Rattle.apex_history.specs.Counted.{AppendsBeginning, one_more}
use Rattle.apex_history.specs.Ports.{NoneFails, Ports}
use Rattle.apex_history.proofs.Passing.{beginning_behind, beginning_longer}
use Rattle.apex_incoming.specs.Ahead.{IsAhead}
use Rattle.apex_incoming.specs.Lines.{ended}
use Rattle.apex_incoming.proofs.Coming.{ahead_more, or_nothing}
use Rattle.apex_steps.specs.Answers.{unended}
use Rattle.apex_steps.specs.Texts.{answer_text}
use Rattle.apex_steps.specs.Conversations.{CountsReading, Hears, a_line, no_line, said}
use Rattle.apex_steps.specs.Endings.{Converses, IsCutOff}
use Rattle.apex_steps.specs.Sessions.{Session}
use Rattle.apex_steps.specs.declared.answers.Answered.{Answered}
use Rattle.apex_steps.specs.declared.faults.StepFault.{StepFault}
use Rattle.apex_steps.specs.declared.faults.StepFault.TheVariants.{Memory, NoSeparator, Read, Table, Write}
use Rattle.apex_steps.proofs.Heard.{some_ahead}
use Rattle.apex_steps.proofs.Said.{HasSaid, said_end, said_line, said_more, said_none}

-- what is said behind an answer
abbrev behind : (form : Form) → Answered → Option (List ℕ) → List ℕ
behind form answered rest = if answered.is_last then [] else said form (or_nothing rest) answered.session

-- a text that is still to come, and what is said on it
heard : (form : Form) → (session : Session) (left rest : Option (List ℕ)) (answered : Answered) → Hears session left rest answered
    → (text : List ℕ) × IsAhead text left × (said form text session ≡ answer_text form answered ++ behind form answered rest)
heard form session left rest answered (a_line line one taken is) = (
  ended line ++ or_nothing rest,
  ahead_more left rest (ended line) (or_nothing rest) taken (some_ahead rest),
  rw is (said_line form line (or_nothing rest) session one),
)
heard form session left rest answered (no_line bytes one some ahead is) =
    (bytes, ahead, rw is (said_end form bytes session one some ∙ sym (append-nil (answer_text form (unended session)))))

-- before an answer is written
cuts_off : (before after : Ports) → (fault : StepFault) → CountsReading fault before.failed_reads after.failed_reads
    → after.failed_writes ≡ before.failed_writes → IsCutOff fault before after
cuts_off before after Memory reads writes = (reads, writes)
cuts_off before after Read reads writes = (reads, writes)
cuts_off before after Write reads writes = absurd reads
cuts_off before after (Table fault) reads writes = reads
cuts_off before after NoSeparator reads writes = reads

-- on the bytes that were taken so far this was written, and no read and no write failed
pub record HasTalked (form : Form) (first session : Session) (start now : Ports) : Type 0 where
  pub taken : List ℕ
  pub written : List ℕ
  pub gone : Consumes start.left now.left taken
  pub wrote : Appends start.held now.held written
  pub has : HasSaid form first taken written session
  pub none : NoneFails start now

-- nothing was said yet
pub talks_none : (form : Form) → (session : Session) (start : Ports) → HasTalked form session session start start
talks_none form session start = record {
  taken = [];
  written = [];
  gone = Consumes-nil start.left;
  wrote = Appends-nil start.held;
  has = said_none form session;
  none = (refl, refl);
}

module _ (form : Form) (first session : Session) (start now after : Ports) (talked : HasTalked form first session start now) where
  -- nothing is still to come
  pub ends_here : IsAhead [] now.left → after.held ≡ now.held → NoneFails now after → Converses form first start (Ok tt) after
  ends_here ahead same none = (
    talked.taken ++ [],
    ahead_more start.left now.left talked.taken [] talked.gone ahead,
    subst (Appends start.held after.held) (sym (talked.has [] ∙ append-nil talked.written)) (rw same talked.wrote),
    (none.0 ∙ talked.none.0, none.1 ∙ talked.none.1),
  )

  -- nothing more was written
  pub cut_before : (fault : StepFault) → CountsReading fault now.failed_reads after.failed_reads → after.held ≡ now.held
      → after.failed_writes ≡ now.failed_writes → Converses form first start (Err fault) after
  cut_before fault reads same writes =
      let rest = or_nothing now.left in (
        talked.taken ++ rest,
        ahead_more start.left now.left talked.taken rest talked.gone (some_ahead now.left),
        (talked.written, said form rest session, talked.has rest, rw same talked.wrote),
        cuts_off start after fault (subst (λ (n : ℕ). CountsReading fault n after.failed_reads) talked.none.0 reads) (writes ∙ talked.none.1),
      )

  -- this was heard
  module _ (answered : Answered) (hears : Hears session now.left after.left answered) where
    said_on_all : (text : List ℕ) × IsAhead text start.left
        × (said form text first ≡ talked.written ++ (answer_text form answered ++ behind form answered after.left))
    said_on_all =
        let (text, ahead, is) = heard form session now.left after.left answered hears in (
          talked.taken ++ text,
          ahead_more start.left now.left talked.taken text talked.gone ahead,
          talked.has text ∙ ap (λ l. talked.written ++ l) is,
        )

    -- a prefix of the answer was written
    pub cut_within : AppendsBeginning now.held after.held (answer_text form answered) → after.failed_reads ≡ now.failed_reads
        → after.failed_writes ≡ one_more now.failed_writes → Converses form first start (Err Write) after
    cut_within begun reads writes =
        let (text, ahead, is) = said_on_all in (
          text,
          ahead,
          subst (AppendsBeginning start.held after.held) (sym is)
              (beginning_behind start.held now.held after.held talked.written _ talked.wrote
              (beginning_longer now.held after.held (answer_text form answered) (behind form answered after.left) begun)),
          (reads ∙ talked.none.0, writes ∙ ap one_more talked.none.1),
        )

    -- the answer was written, and is the last one
    pub ends_with : answered.is_last ≡ true → Appends now.held after.held (answer_text form answered) → NoneFails now after
        → Converses form first start (Ok tt) after
    ends_with last appends none =
        let (text, ahead, is) = said_on_all in
        let nothing : behind form answered after.left ≡ [] = rw last refl in
        let all = is ∙ ap (λ l. talked.written ++ (answer_text form answered ++ l)) nothing ∙ ap (λ l. talked.written ++ l) (append-nil (answer_text form answered)) in (
          text,
          ahead,
          subst (Appends start.held after.held) (sym all)
              (Appends-trans start.held now.held after.held talked.written (answer_text form answered) talked.wrote appends),
          (none.0 ∙ talked.none.0, none.1 ∙ talked.none.1),
        )

  -- the answer was written, and the session goes on behind it
  pub goes_on : (answered : Answered) → Hears session now.left after.left answered → answered.is_last ≡ false
      → Appends now.held after.held (answer_text form answered) → NoneFails now after → HasTalked form first answered.session start after
  goes_on answered (a_line line one passed is) more appends none = record {
    taken = talked.taken ++ ended line;
    written = talked.written ++ answer_text form answered;
    gone = Consumes-trans start.left now.left after.left talked.taken (ended line) talked.gone passed;
    wrote = Appends-trans start.held now.held after.held talked.written (answer_text form answered) talked.wrote appends;
    has = rw is (said_more form first session talked.taken talked.written line talked.has one (rw is at more));
    none = (none.0 ∙ talked.none.0, none.1 ∙ talked.none.1);
  }
  goes_on answered (no_line bytes one some ahead is) more appends none =
      let never : true ≡ false = rw is at more in
      cc
