-- Which step holds a message (RULES 5.8), by what the published move leaves: Figure 7's receive from PP puts the message into ppwait of its
-- destination, or adds it to msgs there.
use Rattle.std.specs.Prelude.{ℕ, ◌≡◌}
use Rattle.names.specs.Placement.{Placement}
use Rattle.automaton.specs.State.{Tagged}
use Rattle.automaton.specs.HoldingMeaning.{IsHeld, Joins}
use Rattle.claims.specs.Command.{take_single}
use Rattle.claims.specs.Steps.{RawStep, good, decode}
use Rattle.claims.specs.Published.{Letter, Published, mail}
use Rattle.claims.specs.PublishedRun.{after_decoded}

-- step a is an 8 of task t
abbrev pub Eight : Placement → RawStep → ℕ → Type 0
Eight P a t = decode P a ≡ good (take_single t)

module _ (P : Placement) (s : Published) (a : RawStep) where
  -- step a is an 8, and its message is held then
  pub record Holds : Type 0 where
    pub task : ℕ
    pub message : Tagged Letter
    pub eight : Eight P a task
    pub held : IsHeld mail s.channel (after_decoded P s (decode P a)).channel task message

  -- step a is an 8, and its message joins the inbox
  pub record LetsJoin : Type 0 where
    pub task : ℕ
    pub message : Tagged Letter
    pub eight : Eight P a task
    pub joins : Joins mail s.channel (after_decoded P s (decode P a)).channel task message
