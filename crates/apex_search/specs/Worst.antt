-- The greatest response of a process: what a search for it says of the schedules of a pace.
use Rattle.std.specs.Prelude.{◌≡◌, ℕ, ◌+◌, ◌-◌, ◌^◌, ◌<◌, ◌≤◌, ◌⊎◌, All, List, [], ◌∷◌, ◌++◌, length, Option, None, Some, option_map}
use Rattle.std.specs.Option.{ForSome}
use Rattle.apex_explore.specs.declared.searches.Search.{Search}
use Rattle.apex_machine.specs.Events.{IsWithin}
use Rattle.apex_machine.specs.Situations.{deed}
use Rattle.apex_machine.specs.processes.Periods.{IsReleased}
use Rattle.apex_machine.specs.processes.Roster.{Roster, record_at}
use Rattle.apex_pace.specs.Pace.{KeepsPace, Paced, paced_opening, paced_run}
use Rattle.apex_search.specs.Answers.{HasStates, IsRoomUsedUp, schedule_of}
use Rattle.apex_search.specs.Census.{IsSearchOf}
use Rattle.apex_search.specs.Facts.{Shown, shown_of}
use Rattle.apex_forms.specs.Forms.{canonical_paced}
use Rattle.apex_search.specs.Laws.{StandsFor}
use Rattle.apex_recall.specs.Formed.{IsFormed}
use Rattle.apex_search.specs.Steps.{Searched}
use Rattle.apex_search.specs.Terms.{Event}
use Rattle.apex_questions.specs.declared.Fact.TheVariants.{Response}
use Rattle.apex_search.specs.declared.systems.Workplace.{Workplace}
use Rattle.apex_search.specs.declared.worst.Job.{Job}
use Rattle.apex_search.specs.declared.worst.Round.{Round}
use Rattle.apex_search.specs.declared.worst.Round.TheVariants as rounds
use Rattle.apex_search.specs.declared.worst.Slowest.{Slowest}
use Rattle.apex_search.specs.declared.worst.Worst.{Worst}
use Rattle.apex_search.specs.declared.worst.Worst.TheVariants.{Greatest, Overrun, Full, Beyond}
use Rattle.apex_types.specs.declared.calls.Call.TheVariants.{Time}
use Rattle.apex_types.specs.declared.calls.TimeCall.TheVariants.{PeriodicWait}
use Rattle.apex_types.specs.declared.entries.Caller.TheVariants.{Process}
use Rattle.apex_types.specs.declared.entries.Reply.TheVariants.{Blocked}

-- with a PERIODIC_WAIT the entry ends a job of process p, which has this period: the job was released
-- this many ticks before
pub record EndsJob (p period response : ℕ) (entry : Shown) : Type 0 where
  pub caller : entry.caller ≡ Process p
  pub call : entry.call ≡ Some (Time PeriodicWait)
  pub reply : entry.reply ≡ Blocked
  pub released : IsReleased (record_at entry.roster p)
  pub periodic : (record_at entry.roster p).attributes.period ≡ Some period
  pub since : entry.roster.now ≡ (record_at entry.roster p).release + response

-- the schedule keeps the pace, and the entry of its last event ends such a job
pub record LeadsToResponse (system : Searched) (p period response : ℕ) (events : List Event)
    : Type 0 where
  pub earlier : List Event
  pub last : Event
  pub is : events ≡ earlier ++ last ∷ []
  pub keeps : KeepsPace system.pace system.table (paced_opening system.table) events
  pub ends : EndsJob p period response (shown_of
      (deed system.table (paced_run system.table (paced_opening system.table) earlier).situation
      last))

-- each response of process p is below this many ticks, in all schedules of the pace
abbrev pub AllBelow : Searched → ℕ → ℕ → Type 0
AllBelow system p ticks = (events : List Event) (period response : ℕ)
    → LeadsToResponse system p period response events → response < ticks

-- so it is in all schedules of at most this many events
abbrev pub AllBelowWithin : Searched → ℕ → ℕ → ℕ → Type 0
AllBelowWithin system p ticks depth = (events : List Event) (period response : ℕ)
    → length events ≤ depth → LeadsToResponse system p period response events → response < ticks

-- the schedule has this response, which is at most a period, and the history has room for its
-- entries; and no shorter schedule has one as great
pub record IsSlowest (system : Searched) (p : ℕ) (slowest : Slowest) : Type 0 where
  pub period : ℕ
  pub leads : LeadsToResponse system p period slowest.response slowest.schedule.items
  pub in_period : slowest.response ≤ period
  pub own : All (IsWithin system.table.cores) slowest.schedule.items
  pub fits : length slowest.schedule.items ≤ system.table.limit
  pub shortest : (other : List Event) (period response : ℕ)
      → LeadsToResponse system p period response other → slowest.response ≤ response
      → length slowest.schedule.items ≤ length other

-- the schedule has a response of more than this period, and the history has room for its entries; and
-- no shorter schedule has one of more than a period
pub record IsOverrun (system : Searched) (p period : ℕ) (schedule : List Event) : Type 0 where
  pub response : ℕ
  pub leads : LeadsToResponse system p period response schedule
  pub over : period < response
  pub own : All (IsWithin system.table.cores) schedule
  pub fits : length schedule ≤ system.table.limit
  pub shortest : (other : List Event) (period response : ℕ)
      → LeadsToResponse system p period response other → period < response
      → length schedule ≤ length other

-- a schedule has a response of process p of at least this many ticks, or of more than a period, and it
-- has more events than the limit
pub record HasResponseBeyond (system : Searched) (p ticks limit : ℕ) : Type 0 where
  pub events : List Event
  pub period : ℕ
  pub response : ℕ
  pub leads : LeadsToResponse system p period response events
  pub great : (ticks ≤ response) ⊎ (period < response)
  pub longer : limit < length events

-- the first number of ticks above this response, or 0 if there is none
abbrev pub above : Option Slowest → ℕ
above None = 0
above (Some slowest) = slowest.response + 1

-- the same system with the question for a response of process p of at least this many ticks, or of
-- more than a period
abbrev pub responding : Searched → ℕ → ℕ → Searched
responding system p ticks = record system {
  question = record { facts = Response ticks ∷ []; process = Some p; service = None };
}

-- what a search with room for this many states says of the responses of process p
abbrev pub IsWorst : Searched → ℕ → ℕ → Worst → Type 0
IsWorst system p room (Greatest found states) =
    ForSome found (IsSlowest system p) × AllBelow system p (above found)
    × HasStates (responding system p (above found)) states
IsWorst system p room (Overrun schedule period) = IsOverrun system p period schedule.items
IsWorst system p room (Full found depth) =
    ForSome found (IsSlowest system p) × AllBelowWithin system p (above found) depth
    × IsRoomUsedUp (responding system p (above found)) room depth
IsWorst system p room (Beyond found limit) =
    ForSome found (IsSlowest system p) × (limit ≡ system.table.limit)
    × AllBelowWithin system p (above found) limit
    × HasResponseBeyond system p (above found) limit

-- the job has a response of at least this many ticks, and the search asks for a greater one now
pub record IsSlower (system now : Searched) (p least : ℕ) (search : Search Workplace)
    (slowest : Slowest) : Type 0 where
  pub is : IsSlowest system p slowest
  pub more : least ≤ slowest.response
  pub few : slowest.response < 2 ^ 32
  pub asks : now ≡ responding system p (slowest.response + 1)
  pub of : IsSearchOf now search

-- what a search on for a response of process p of `least` ticks or more says, with room for `room`
-- states
abbrev pub IsRound : Searched → Searched → ℕ → ℕ → ℕ → Search Workplace → Round → Type 0
IsRound system now p least room search (rounds.Slower slowest) =
    IsSlower system now p least search slowest
IsRound system now p least room search (rounds.Overrun schedule period) =
    IsOverrun system p period schedule.items
IsRound system now p least room search (rounds.Closed states) =
    AllBelow system p least × HasStates (responding system p least) states
IsRound system now p least room search (rounds.Full depth) =
    AllBelowWithin system p least depth × IsRoomUsedUp (responding system p least) room depth
IsRound system now p least room search (rounds.Beyond limit) =
    (limit ≡ system.table.limit) × AllBelowWithin system p least limit
    × HasResponseBeyond system p least limit

-- the period of process p, if it has one, and the ticks since its last release
abbrev pub last_job : Roster → ℕ → Option Job
last_job roster p =
    option_map
    (λ period. record { period = period; response = roster.now - (record_at roster p).release })
    (record_at roster p).attributes.period

-- the situation is in a canonical form that represents the one to which the schedule leads
pub record IsFormAfter (system : Searched) (here : Paced) (events : List Event) : Type 0 where
  pub formed : IsFormed system.pace system.table here
  pub later : ℕ
  pub stands : StandsFor system.pace later (canonical_paced system.pace formed.paced)
      (paced_run system.table (paced_opening system.table) events)

-- the schedule of the path ends this job, but a response of more than a period may be another such one
pub record IsJobOf (system : Searched) (p : ℕ) (path : List ℕ) (events : List Event) (job : Job)
    : Type 0 where
  pub is : events ≡ schedule_of system path
  pub own : All (IsWithin system.table.cores) events
  pub response : ℕ
  pub leads : LeadsToResponse system p job.period response events
  pub same : job.response ≤ job.period → response ≡ job.response
  pub over : job.period < job.response → job.period < response

-- the events of the schedule that was found, if one was
abbrev pub schedule_in : Worst → Option (List Event)
schedule_in (Greatest found states) = option_map (λ slowest. slowest.schedule.items) found
schedule_in (Overrun schedule period) = Some schedule.items
schedule_in (Full found depth) = option_map (λ slowest. slowest.schedule.items) found
schedule_in (Beyond found limit) = option_map (λ slowest. slowest.schedule.items) found
