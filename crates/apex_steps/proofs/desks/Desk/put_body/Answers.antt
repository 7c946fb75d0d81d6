use Rattle.apex_steps.proofs.desks.Desk.put_body.Goals as goal

pub returns-in-Next-clause-err : goal.returns-in-Next-clause-err
returns-in-Next-clause-err g c = rw c.in-Next.is (rw (c.say_next.ensures, c.requires) at c.make_room.ensures.err)

pub returns-in-Front-clause-err : goal.returns-in-Front-clause-err
returns-in-Front-clause-err g c = rw c.in-Front.is (rw (c.say_front.ensures, c.requires) at c.make_room-in-Front.ensures.err)
