use Rattle.apex_search.proofs.systems.TableSystem.worst.Goals as goal

pub returns : goal.returns
returns g c =
    rw c.in_ok-search.ensures.room at (c.greatest_response-worst.ensures c.args.self c.ask_for_response.ensures)
