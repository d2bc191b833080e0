-- At every gateway that set up accepts, or that sound memory holds, what a message sends is later than the message.
use lib.ListN.{length}
use Rattle.model.proofs.Sending.{sending}
use Rattle.memory.specs.Codec.{decode}
use Rattle.memory.specs.Records.{site_of}
use Rattle.memory.specs.declared.Settings.{Settings}
use Rattle.memory.proofs.LeadTimeFacts.{at_least_one}
use Rattle.memory.proofs.SoundMemory.{codec-laws}
use Rattle.memory.proofs.Validated.{ValidSettings, valid-facts}
use Rattle.gateway.specs.Claims.{Later, LaterThanItsCause}
use Rattle.gateway.proofs.Openings.{set-up-accepted, opening-settings}

-- valid settings have hours of at least 1
valid-later : (s : Settings) → ValidSettings s → Later s
valid-later settings v s m = (sending (site_of settings) s m).later (at_least_one settings.hours v.hours)

pub later-than-its-cause : LaterThanItsCause
later-than-its-cause =
    record {
      by_set_up = λ o list memory z. valid-later _ (opening-settings o (length memory) list (set-up-accepted o list memory z));
      in_memory = λ memory h. valid-later _ (valid-facts (decode memory) (codec-laws.reading memory h.bytes h.is-sound).valid-held).settings;
    }
