-- The figures of a service, each read off the history.
use Rattle.std.specs.Prelude.{Bool, false, List, [], Option, None, Some}
use Rattle.std.specs.Str.{bytes_eq}
use Rattle.apex_calls.specs.Catalogue.{row_of}
use Rattle.apex_calls.specs.declared.catalogue.Row as declared
use Rattle.apex_calls.specs.Parts.{parts_of}
use Rattle.apex_report.specs.Refusals.{refusals}
use Rattle.apex_report.specs.Terms.{Call, Entry, Service, ServiceFigures}

-- the service that a call asks for
abbrev pub service_of : Call → Service
service_of call = (parts_of call).0

-- the two services are the same one: they have the same word
abbrev pub is_same_service : Service → Service → Bool
is_same_service first second = bytes_eq (row_of first).word (row_of second).word

-- there is a call, and it asks for the service
abbrev pub asks_for : Service → Option Call → Bool
asks_for service None = false
asks_for service (Some call) = is_same_service service (service_of call)

-- the entry has a call of the service, whoever asked for it
abbrev pub is_call_of : Service → Entry → Bool
is_call_of service e = asks_for service e.call

-- the figures of a service
abbrev pub service_figures : List Entry → Service → ServiceFigures
service_figures history service = record {
  service = service;
  refusals = refusals (is_call_of service) history;
}

-- the figures of the service of a row before any entry
abbrev pub row_figures : declared.Row → ServiceFigures
row_figures row = service_figures [] row.service
