-- Objects of any kind: the effect of an entry on them, and the services that each kind has.
use Rattle.std.proofs.Common.{◌≡◌, ◌≢◌, ℕ, ◌+◌, ◌<◌, Bool, true, false, not, if◌then◌else◌, List, [], ◌∷◌, ◌++◌, Option, None, Some, option_and_then, option_map, All, length, set, get_or, flat_map, refl, sym, arith, inl, inr}
use Rattle.std.proofs.lemmas.Bool.{cases_eq, eq-eqb}
use Rattle.std.proofs.lemmas.List.Elements.{All-nil, All-cons, All-append, All-weaker}
use Rattle.std.proofs.lemmas.Option.{none-some, same_Some}
use Rattle.apex_laws.specs.Terms.{Call, Caller, Entry, Notice, ObjectCall, Queue, Reply, ReturnCode, Who}
use Rattle.apex_types.specs.declared.calls.Named.TheVariants.{Known, Unknown}
use Rattle.apex_types.specs.declared.calls.ObjectCall.TheVariants.{Create, GetId, GetStatus, KindService}
use Rattle.apex_types.specs.declared.entries.Reply.TheVariants.{Code, Value, Message as Gets}
use Rattle.apex_machine.specs.declared.records.Queue.TheVariants as queues
use Rattle.apex_types.specs.declared.entries.ReturnCode.TheVariants.{NoError, InvalidConfig}
use Rattle.apex_types.specs.Calls.{object_of, creation_of}
use Rattle.apex_machine.specs.services.Calls.{is_place, queue_named}
use Rattle.apex_machine.specs.History.{creates}
use Rattle.apex_machine.specs.services.Objects.{ObjectKind, objects_of, object_service, create, no_entry, deed_at}
use Rattle.apex_types.specs.Modes.{is_normal}
use Rattle.apex_machine.specs.processes.Roster.{Roster, record_at}
use Rattle.apex_machine.specs.services.Rows.{Outcome, refused, replied}
use Rattle.apex_machine.specs.services.Satisfied.{is_accepted, is_satisfied, is_no_error, own_call, answered_by, satisfied_by}
use Rattle.apex_machine.specs.table.Table.{IsKnownObject}
use Rattle.apex_types.proofs.Places.{get_or-map_places, map_places_same, set-map_places}
use Rattle.apex_machine.proofs.Rows.{by_guard}
use Rattle.apex_laws.specs.AskedWaits.{AreAsked}
use Rattle.apex_laws.proofs.AskedWaits.{Frees, IsStill, still_elsewhere, still_freed}
use Rattle.apex_laws.proofs.Satisfied.{AnsweredAt, Asks, WokenAt, answered_at, far_answered, is_near, near_none, wakes}
use Rattle.apex_laws.proofs.Serving.{Scene, Serves, ServesBy, serves_same}
use Rattle.apex_laws.proofs.Truths.{and_false, other}

-- the entry of a call, with this number in a history
abbrev pub entry_with : ℕ → ℕ → Who → Caller → Call → Reply → List Notice → Entry
entry_with number now who caller call reply notices = record {
  number = number;
  now = now;
  who = who;
  process = caller;
  call = Some call;
  reply = reply;
  notices = notices;
}

-- the entry says nothing of thing i, which has this queue or none: it satisfies no call that names
-- the queue, and does not create the thing
pub record IsQuiet (own : Option Queue) (created : Call → Option ℕ) (i : ℕ) (history : List Entry) (e : Entry) : Type 0 where
  pub calls : All (λ c. is_near own (queue_named c) ≡ false) (satisfied_by history e)
  pub create : creates created i e ≡ false

-- after one entry more, which leaves this roster, the i-th object is this one, and the facts that
-- are kept of it stay
pub record IsRead {C X : Type 0} (after : List Entry → ℕ → C → X) (Keeps : Roster → List Entry → ℕ → C → Type 0)
    (new : Roster) (history : List Entry) (e : Entry) (i : ℕ) (c : C) (x : X) : Type 0 where
  pub is : after (history ++ e ∷ []) i c ≡ x
  pub kept : Keeps new (history ++ e ∷ []) i c

-- the facts that a service on the i-th object keeps: of the processes, and of the object as the
-- history has it
pub record ServesOne {C X : Type 0} (after : List Entry → ℕ → C → X) (Keeps : Roster → List Entry → ℕ → C → Type 0)
    (history : List Entry) (roster : Roster) (caller : Caller) (call : Call) (at : Option Queue) (i : ℕ) (c : C) (o : Outcome X) : Type 0 where
  pub serves : ServesBy roster caller call at o
  pub read : (number now : ℕ) (who : Who)
      → IsRead after Keeps o.roster history (entry_with number now who caller call o.reply o.notices) i c o.object

-- the queue of a kind's object, if the kind has one: a process that waits there afterwards waited
-- there before
abbrev pub IsStillAt : Option Queue → Roster → Roster → Type 0
IsStillAt None old new = Unit {0}
IsStillAt (Some queue) old new = IsStill queue old new

still_same : (at : Option Queue) (roster : Roster) → IsStillAt at roster roster
still_same None roster = tt
still_same (Some queue) roster = λ p w waits is. waits

still_at : (at : Option Queue) (caller : Caller) (call : Call) (old new : Roster) → is_near at (queue_named call) ≡ false
    → Asks caller (Some call) old new → IsStillAt at old new
still_at None caller call old new elsewhere asks = tt
still_at (Some queue) caller call old new elsewhere asks = still_elsewhere queue caller call old new elsewhere asks

pub still_freed_at : (at : Option Queue) (old new : Roster) → Frees old new → IsStillAt at old new
still_freed_at None old new frees = tt
still_freed_at (Some queue) old new frees = still_freed queue old new frees

-- the queue that the object of a call has, or none
pub then_some : (queue : ℕ → Queue) (object : Option ℕ) → option_map queue object ≡ option_and_then (λ i. Some (queue i)) object
then_some queue None = refl
then_some queue (Some i) = refl

pub then_none : (object : Option ℕ) → let none : Option Queue = None in none ≡ option_and_then (λ i. none) object
then_none None = refl
then_none (Some i) = refl

-- what is far from the queue of each object is far from that of the one that a call names
pub far_then : (own : Option Queue) (queue : ℕ → Option Queue) → ((i : ℕ) → is_near own (queue i) ≡ false)
    → (object : Option ℕ) → is_near own (option_and_then queue object) ≡ false
far_then own queue far None = near_none own
far_then own queue far (Some i) = far i

-- the facts about a kind that proofs use: its calls among all calls, the queues of its waiters, and
-- its objects after an entry
pub record LawsOf {C X W : Type 0} (kind : ObjectKind C X W) : Type 1 where
  pub to : ObjectCall ℕ W → Call
  pub creation : Call → Option ℕ
  -- a configuration past the end of the table
  pub nothing : C
  -- the queue in which processes wait for an object, if the kind has such queues
  pub at : ℕ → Option Queue
  -- the queue that a call on an object names
  pub queue : ℕ → Option Queue
  -- the facts that are kept of an object, and of its waiters
  pub Keeps : Roster → List Entry → ℕ → C → Type 0
  -- the premise of its own services about the processes
  pub IsThere : Roster → ℕ → Type 0
  pub created : (call : ObjectCall ℕ W) → creation (to call) ≡ creation_of call
  pub named : (call : ObjectCall ℕ W) → queue_named (to call) ≡ option_and_then queue (object_of call)
  pub differs : (j i : ℕ) → j ≢ i → (is_near (at j) (queue i) ≡ false) × (is_near (at j) (at i) ≡ false)
  -- the queue in which processes wait for an object is that which its calls name
  pub itself : (i : ℕ) (own : Queue) → at i ≡ Some own → queue i ≡ Some own
  pub unlike : (j m : ℕ) → is_near (at j) (Some (queues.Mutex m)) ≡ false
  pub status : (roster : Roster) (x : X) (i : ℕ) → is_satisfied (kind.status roster x i) ≡ false
  pub stays : (old new : Roster) (history : List Entry) (e : Entry) (i : ℕ) (c : C) → Keeps old history i c
      → IsQuiet (at i) creation i history e → IsStillAt (at i) old new
      → IsRead kind.after Keeps new history e i c (kind.after history i c)
  pub makes : (roster : Roster) (history : List Entry) (e : Entry) (i : ℕ) (c : C) → Keeps roster history i c
      → satisfied_by history e ≡ to (Create (Known i)) ∷ [] → creates creation i e ≡ true
      → IsRead kind.after Keeps roster history e i c (kind.made (kind.after history i c))
  pub service : (history : List Entry) (roster : Roster) (caller : Caller) (i : ℕ) (c : C) (service : W)
      → Keeps roster history i c → AreAsked roster history → Scene roster caller → IsThere roster i
      → ServesOne kind.after Keeps history roster caller (to (KindService i service)) (at i) i c
      (kind.service roster (kind.after history i c) i caller service)

-- a reply that isn't satisfied isn't accepted
unaccepted : (reply : Reply) → is_satisfied reply ≡ false → is_accepted reply ≡ false
unaccepted (Gets message) plain = refl
unaccepted (Code code) plain = plain
unaccepted _ plain = refl

-- an entry that isn't satisfied and wakes no process says nothing of anything
pub quiet_told : (own : Option Queue) (created : Call → Option ℕ) (i : ℕ) (history : List Entry)
    (number now : ℕ) (who : Who) (caller : Caller) (call : Call) (reply : Reply) → is_satisfied reply ≡ false
    → IsQuiet own created i history (entry_with number now who caller call reply [])
quiet_told own created i history number now who caller call reply plain = record {
  calls = rw plain (All-nil (λ c. is_near own (queue_named c) ≡ false));
  create = rw (unaccepted reply plain) (and_false (is_place i (created call)));
}

-- no call that an entry answers names the queue, if the processes that it wakes with NO_ERROR waited
-- in another one
module _ (own at : Option Queue) (history : List Entry) (roster : Roster) (notices : List Notice) (asked : AreAsked roster history)
    (woken : (q : ℕ) → wakes q notices ≡ true → WokenAt at (record_at roster q))
    (unlike : (m : ℕ) → is_near own (Some (queues.Mutex m)) ≡ false) (far : is_near own at ≡ false) where
  abbrev IsUnnamed : Call → Type 0
  IsUnnamed c = is_near own (queue_named c) ≡ false

  none_named : (calls : List Call) → All IsUnnamed calls → All IsUnnamed (calls ++ flat_map (answered_by history) notices)
  none_named calls unnamed =
      All-append IsUnnamed calls (flat_map (answered_by history) notices) unnamed
      (All-weaker (AnsweredAt at) IsUnnamed (λ c. far_answered own at c unlike far) (flat_map (answered_by history) notices)
      (answered_at roster history notices at asked woken))

  -- nor does its own call, if it names another thing
  pub quiet_elsewhere : (created : Call → Option ℕ) (i number now : ℕ) (who : Who) (caller : Caller) (call : Call) (reply : Reply)
      → is_near own (queue_named call) ≡ false → is_place i (created call) ≡ false
      → IsQuiet own created i history (entry_with number now who caller call reply notices)
  quiet_elsewhere created i number now who caller call reply unnamed uncreated = record {
    calls = none_named (own_call (entry_with number now who caller call reply notices)) (here (is_satisfied reply));
    create = rw uncreated refl;
  } where
    here : (b : Bool) → All IsUnnamed (if b then call ∷ [] else [])
    here true = All-cons IsUnnamed call [] unnamed (All-nil IsUnnamed)
    here false = All-nil IsUnnamed

-- a call creates no other thing than the one that it names
created_named : {W : Type 0} (call : ObjectCall ℕ W) (j : ℕ) → is_place j (object_of call) ≡ false → is_place j (creation_of call) ≡ false
created_named (Create named) j e = e
created_named (GetId named) j e = refl
created_named (GetStatus i) j e = refl
created_named (KindService i service) j e = refl

-- the thing that a known call names is there
known_at : {W : Type 0} (many : ℕ) (call : ObjectCall ℕ W) (i : ℕ) → object_of call ≡ Some i → IsKnownObject many call → i < many
known_at many (Create (Known j)) i is known = rw (same_Some j i is) at known
known_at many (Create (Unknown name)) i is known = absurd (none-some i is)
known_at many (GetId (Known j)) i is known = rw (same_Some j i is) at known
known_at many (GetId (Unknown name)) i is known = absurd (none-some i is)
known_at many (GetStatus j) i is known = rw (same_Some j i is) at known
known_at many (KindService j service) i is known = rw (same_Some j i is) at known

module _ {C X W : Type 0} (kind : ObjectKind C X W) (laws : LawsOf kind) (history : List Entry) (roster : Roster) (caller : Caller)
    (asked : AreAsked roster history) where
  abbrev Served : ObjectCall ℕ W → ℕ → C → Outcome X → Type 0
  Served call i c o = ServesOne kind.after laws.Keeps history roster caller (laws.to call) (laws.at i) i c o

  module _ (i : ℕ) (c : C) (keeps : laws.Keeps roster history i c) where
    abbrev x : X
    x = kind.after history i c

    -- answered without being accepted
    served_told : (call : ObjectCall ℕ W) (reply : Reply) → is_satisfied reply ≡ false → Served call i c (replied roster x reply)
    served_told call reply plain = record {
      serves = serves_same roster caller (laws.to call) (laws.at i);
      read = λ number now who. laws.stays roster roster history _ i c keeps
          (quiet_told (laws.at i) laws.creation i history number now who caller (laws.to call) reply plain)
          (still_same (laws.at i) roster);
    }

    served_refused : (call : ObjectCall ℕ W) (code : ReturnCode) → is_no_error code ≡ false → Served call i c (refused roster x code)
    served_refused call code bad = served_told call (Code code) bad

    served_create : Served (Create (Known i)) i c (create kind roster x)
    served_create =
        by_guard roster x (Served (Create (Known i)) i c) (served_refused (Create (Known i))) (is_normal roster.mode) _ _ refl (λ _.
        by_guard roster x (Served (Create (Known i)) i c) (served_refused (Create (Known i))) (kind.created x) _ _ refl (λ _. record {
          serves = serves_same roster caller (laws.to (Create (Known i))) (laws.at i);
          read = λ number now who. laws.makes roster history (entry_with number now who caller (laws.to (Create (Known i))) (Code NoError) []) i c keeps refl
              (rw (laws.created (Create (Known i)), eq-eqb i i refl) refl);
        }))

    served_object : (call : ObjectCall ℕ W) → object_of call ≡ Some i → Scene roster caller → laws.IsThere roster i
        → Served call i c (object_service kind roster x i caller call)
    served_object (Create (Known j)) is scene stands = rw (same_Some j i is) served_create
    served_object (Create (Unknown name)) is scene stands = absurd (none-some i is)
    served_object (GetId named) is scene stands =
        by_guard roster x (Served (GetId named) i c) (served_refused (GetId named)) (not (kind.created x)) _ _ refl
        (λ _. served_told (GetId named) (Value (i + 1)) refl)
    served_object (GetStatus j) is scene stands =
        by_guard roster x (Served (GetStatus j) i c) (served_refused (GetStatus j)) (not (kind.created x)) _ _ refl
        (λ _. served_told (GetStatus j) (kind.status roster x i) (laws.status roster x i))
    served_object (KindService j service) is scene stands =
        rw (same_Some j i is) (laws.service history roster caller i c service keeps asked scene stands)

-- the queue of the processes that a call on this object may wake
abbrev pub queue_at : {C X W : Type 0} {kind : ObjectKind C X W} → LawsOf kind → Option ℕ → Option Queue
queue_at laws target = option_and_then laws.at target

pub named_there : {C X W : Type 0} {kind : ObjectKind C X W} (laws : LawsOf kind) (target : Option ℕ) (own : Queue)
    → queue_at laws target ≡ Some own → option_and_then laws.queue target ≡ Some own
named_there laws None own is = absurd (none-some own is)
named_there laws (Some i) own is = laws.itself i own is

-- all objects of a kind, read off a history that keeps the facts about each
module _ {C X W : Type 0} (kind : ObjectKind C X W) (laws : LawsOf kind) (history : List Entry) (roster : Roster) (configs : List C)
    (keeps : (i : ℕ) → i < length configs → laws.Keeps roster history i (get_or configs i laws.nothing)) where
  abbrev config : ℕ → C
  config i = get_or configs i laws.nothing

  abbrev objects : List X
  objects = objects_of kind history configs

  -- after one entry more, which leaves this roster, the objects are these
  pub record AreRead (new : Roster) (e : Entry) (all : List X) : Type 0 where
    pub are : objects_of kind (history ++ e ∷ []) configs ≡ all
    pub kept : (i : ℕ) → i < length configs → laws.Keeps new (history ++ e ∷ []) i (config i)

  -- an entry that says nothing of any of them leaves them
  pub all_stay : (new : Roster) (e : Entry) → ((i : ℕ) → IsQuiet (laws.at i) laws.creation i history e)
      → ((i : ℕ) → IsStillAt (laws.at i) roster new) → AreRead new e objects
  all_stay new e quiet still = record {
    are = map_places_same (kind.after (history ++ e ∷ [])) (kind.after history) configs laws.nothing kind.absent
        (λ i inside. (laws.stays roster new history e i (config i) (keeps i inside) (quiet i) (still i)).is);
    kept = λ i inside. (laws.stays roster new history e i (config i) (keeps i inside) (quiet i) (still i)).kept;
  }

  -- the i-th changes, and the entry says nothing of the others
  one_changes : (new : Roster) (e : Entry) (i : ℕ) (x : X) → i < length configs → IsRead kind.after laws.Keeps new history e i (config i) x
      → ((j : ℕ) → j ≢ i → IsQuiet (laws.at j) laws.creation j history e)
      → ((j : ℕ) → j ≢ i → IsStillAt (laws.at j) roster new) → AreRead new e (set objects i x)
  one_changes new e i x here read quiet still =
      let stays = λ (j : ℕ) (inside : j < length configs) (apart : j ≢ i).
      laws.stays roster new history e j (config j) (keeps j inside) (quiet j apart) (still j apart) in
      record {
        are = sym (set-map_places (kind.after history) (kind.after (history ++ e ∷ [])) configs i x laws.nothing kind.absent here
            (sym read.is) (λ j inside apart. sym (stays j inside apart).is));
        kept = λ j inside. elim (cases_eq j i) [
          | inl same ↦ rw same read.kept
          | inr apart ↦ (stays j inside apart).kept
        ];
      }

  -- an event without a call leaves them
  pub all_uncalled : (new : Roster) (e : Entry) → AreAsked roster history → e.call ≡ None
      → ((q : ℕ) → wakes q e.notices ≡ true → WokenAt None (record_at roster q)) → Frees roster new → AreRead new e objects
  all_uncalled new e asked uncalled woken frees =
      all_stay new e
      (λ j. record {
        calls = none_named (laws.at j) None history roster e.notices asked woken (laws.unlike j) (near_none (laws.at j))
            (own_call e) (rw uncalled (nothing j (is_satisfied e.reply)));
        create = rw uncalled refl;
      })
      (λ j. still_freed_at (laws.at j) roster new frees) where
        nothing : (j : ℕ) (b : Bool) → All (λ c. is_near (laws.at j) (queue_named c) ≡ false) (if b then [] else [])
        nothing j true = All-nil _
        nothing j false = All-nil _

  module _ (caller : Caller) (asked : AreAsked roster history) where
    -- a call of another kind leaves them
    pub all_elsewhere : (call : Call) (at : Option Queue) (new : Roster) (reply : Reply) (notices : List Notice)
        → Serves roster caller call at new notices
        → ((j : ℕ) → is_near (laws.at j) (queue_named call) ≡ false) → ((j : ℕ) → is_near (laws.at j) at ≡ false)
        → laws.creation call ≡ None
        → (number now : ℕ) (who : Who) → AreRead new (entry_with number now who caller call reply notices) objects
    all_elsewhere call at new reply notices serves unnamed far uncreated number now who =
        all_stay new (entry_with number now who caller call reply notices)
        (λ j. quiet_elsewhere (laws.at j) at history roster notices asked serves.woken (laws.unlike j) (far j)
        laws.creation j number now who caller call reply (unnamed j) (rw uncreated refl))
        (λ j. still_at (laws.at j) caller call roster new (unnamed j) serves.asks)

    -- the facts that a service on these objects keeps: of the processes, and of the objects
    pub record ServesAll (call : ObjectCall ℕ W) (at : Option Queue) (o : Outcome (List X)) : Type 0 where
      pub serves : ServesBy roster caller (laws.to call) at o
      pub read : (number now : ℕ) (who : Who) → AreRead o.roster (entry_with number now who caller (laws.to call) o.reply o.notices) o.object

    all_refused : (call : ObjectCall ℕ W) (at : Option Queue) (code : ReturnCode) → is_no_error code ≡ false
        → ServesAll call at (refused roster objects code)
    all_refused call at code bad = record {
      serves = serves_same roster caller (laws.to call) at;
      read = λ number now who. all_stay roster _
          (λ j. quiet_told (laws.at j) laws.creation j history number now who caller (laws.to call) (Code code) bad)
          (λ j. still_same (laws.at j) roster);
    }

    -- a call of a name that is no entry's
    all_unknown : (call : ObjectCall ℕ W) (at : Option Queue) → ServesAll call at (no_entry roster objects call)
    all_unknown (Create named) at =
        by_guard roster objects (ServesAll (Create named) at) (all_refused (Create named) at) (is_normal roster.mode) _ _ refl
        (λ _. all_refused (Create named) at InvalidConfig refl)
    all_unknown (GetId named) at = all_refused (GetId named) at InvalidConfig refl
    all_unknown (GetStatus i) at = all_refused (GetStatus i) at InvalidConfig refl
    all_unknown (KindService i service) at = all_refused (KindService i service) at InvalidConfig refl

    module _ (scene : Scene roster caller) (stands : (i : ℕ) → i < length configs → laws.IsThere roster i) where
      pub all_served : (call : ObjectCall ℕ W) (target : Option ℕ) → object_of call ≡ target → IsKnownObject (length configs) call
          → ServesAll call (queue_at laws target) (deed_at kind roster objects caller call target)
      all_served call None is known = all_unknown call None
      all_served call (Some i) is known =
          let here = known_at (length configs) call i is known in
          let z : 0 + i ≡ i = omega arith in
          let object : get_or objects i kind.absent ≡ kind.after history i (config i) =
          rw (get_or-map_places (kind.after history) 0 configs i laws.nothing kind.absent here, z) refl in
          let one = served_object kind laws history roster caller asked i (config i) (keeps i here) call is scene (stands i here) in
          let unnamed : (j : ℕ) → j ≢ i → is_near (laws.at j) (queue_named (laws.to call)) ≡ false =
          λ j apart. rw (laws.named call, is) (laws.differs j i apart).0 in
          rw object (record {
            serves = one.serves;
            read = λ number now who. one_changes _ _ i _ here (one.read number now who)
                (λ j apart. quiet_elsewhere (laws.at j) (laws.at i) history roster _ asked one.serves.woken (laws.unlike j)
                (laws.differs j i apart).1 laws.creation j number now who caller (laws.to call) _ (unnamed j apart)
                (rw (laws.created call) (created_named call j (rw is (other j i apart)))))
                (λ j apart. still_at (laws.at j) caller (laws.to call) roster _ (unnamed j apart) one.serves.asks);
          })
