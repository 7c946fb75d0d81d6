-- The laws of a machine that is the replay of its own history.
use Rattle.std.proofs.Common.{◌≡◌, ◌≤◌, ◌∙◌, ap, subst, sym}
use Rattle.apex_machine.specs.Machine.{Machine, events_of, opening, replay, run}
use Rattle.apex_machine.specs.table.Table.{Table, IsLawful}
use Rattle.apex_laws.specs.Delivery.{GivesMessagesInOrder}
use Rattle.apex_laws.specs.Laws.{AreInRange, MutexesAreOwnedInOrder, NobodyWaitsInVain, WasNeverLater}
use Rattle.apex_laws.proofs.InOrder.{gives_in_order}
use Rattle.apex_laws.proofs.InVain.{none_in_vain}
use Rattle.apex_laws.proofs.OwnedInOrder.{owned_in_order}
use Rattle.apex_laws.proofs.Runs.{run-append}
use Rattle.apex_laws.proofs.Sound.{IsSound, forward_after, sound_run}

module _ (table : Table) (machine : Machine) (lawful : IsLawful table) (replays : replay table machine.history ≡ machine) where
  pub sound : IsSound table machine
  sound = subst (IsSound table) replays (sound_run table lawful (events_of machine.history))

  pub values_kept : AreInRange table machine.history
  values_kept s within =
      let kept = sound.orderly.kept.semaphores s within in
      record { served = kept.holds.enough; most = kept.holds.bounded }

  pub never_later : WasNeverLater table machine
  never_later first rest parts =
      let here = run table (opening table) first in
      let is : run table here rest ≡ machine =
      sym (run-append table (opening table) first rest) ∙ ap (run table (opening table)) (sym parts) ∙ replays in
      subst (λ (m : Machine). here.roster.now ≤ m.roster.now) is (forward_after table lawful here rest (sound_run table lawful first))

  pub never_in_vain : NobodyWaitsInVain table machine
  never_in_vain = none_in_vain table machine sound.orderly.kept

  pub given_in_order : GivesMessagesInOrder table machine
  given_in_order = gives_in_order table lawful machine sound

  pub always_in_order : MutexesAreOwnedInOrder table machine
  always_in_order = owned_in_order table machine sound.orderly.rules sound.orderly.owners
