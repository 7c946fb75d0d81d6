-- The system is that of the table of the text.
use Rattle.std.proofs.Common.{rules}
use Rattle.apex_inquiries.proofs.SearchLemmas.{system_table}
use Rattle.apex_inquiries.proofs.searching.fact_answer.Goals as goal

pub answer_of-requires : goal.answer_of-requires
answer_of-requires g c = (
  search rules,
  system_table c.args.search.now.pace c.one-facts.result c.args.process c.args.service c.args.text.now c.in_ok-system.system
      c.in_ok-system.ensures.ok,
)

pub returns-clause-ok : goal.returns-clause-ok
returns-clause-ok g c = record {
  system = c.in_ok-system.system;
  is = rw c.one-facts.ensures at c.in_ok-system.ensures.ok;
  answers = c.in_ok-answer.ensures;
}
