use Rattle.apex_search.proofs.systems.TableSystem.census.Goals as goal

pub returns : goal.returns
returns g c = rw c.in_ok-search.ensures.room at c.find_all-census.ensures
