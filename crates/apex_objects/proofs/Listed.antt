-- The sections one behind the other are the listing.
use Rattle.std.proofs.Common.{◌≡◌, ℕ, List, [], ◌++◌, refl, append_assoc, append-nil}
use Rattle.std.specs.Prelude.{flat_map}
use Rattle.apex_services.specs.Sections.{Listed}
use Rattle.apex_objects.specs.Listing.{head_objects, listing_objects_of}
use Rattle.apex_objects.specs.Sections.{section_text, sections}
use Rattle.apex_objects.specs.declared.listing.Section.TheVariants.{Cores, Processes, Semaphores, Buffers, Blackboards, EventFlags, Mutexes}

joined : (a b c d e f g h : List ℕ)
    → a ++ (b ++ (c ++ (d ++ (e ++ (f ++ (g ++ (h ++ []))))))) ≡ a ++ b ++ c ++ d ++ e ++ f ++ g ++ h
joined a b c d e f g h = simp (append_assoc, append-nil) refl

pub sections_listed : (listed : Listed)
    → flat_map (section_text listed) sections ≡ listing_objects_of listed.table listed.roster listed.objects listed.entries
sections_listed listed =
    joined (head_objects listed.roster listed.entries)
    (section_text listed Cores) (section_text listed Processes) (section_text listed Semaphores)
    (section_text listed Buffers) (section_text listed Blackboards) (section_text listed EventFlags) (section_text listed Mutexes)
