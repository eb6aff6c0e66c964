-- The law is that of each hart's numbers, which rise, and no search makes it.
use Rattle.losses.proofs.HartsWhole.{hart_whole, hart_apart}
use Rattle.losses.proofs.laws.stretches_are_whole.Goals as goal

pub returns-clause-whole : goal.returns-clause-whole
returns-clause-whole g c = λ program period handed own logs messages harts of_logs collected hart log pieces at_log
    at_pieces. hart_whole program period handed own logs messages harts of_logs collected hart log pieces at_log
    at_pieces

pub returns-clause-apart : goal.returns-clause-apart
returns-clause-apart g c = λ program period handed own logs messages harts of_logs collected hart log pieces at_log
    at_pieces. hart_apart program period handed own logs messages harts of_logs collected hart log pieces at_log
    at_pieces
