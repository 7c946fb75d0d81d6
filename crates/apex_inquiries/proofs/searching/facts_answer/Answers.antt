use Rattle.apex_inquiries.proofs.searching.facts_answer.Goals as goal

pub returns-clause-ok : goal.returns-clause-ok
returns-clause-ok g c = record {
  system = c.in_ok-system.system;
  is = rw c.all.ensures at c.in_ok-system.ensures.ok;
  answers = c.in_ok-census.ensures;
}
