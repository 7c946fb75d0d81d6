use Rattle.std.proofs.Common.{[], ◌∷◌, ◌++◌}
use Rattle.apex_board.proofs.publishers.Publisher.publish.Given as goal

abbrev pub ghosts-publish_as : goal.ghosts-publish_as
ghosts-publish_as g a = record { history = a.publisher.now ++ a._latest.now ∷ [] }
