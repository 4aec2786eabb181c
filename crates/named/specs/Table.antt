-- The named runs K1 to K10 (RULES 13) and three more: the bytes of each file, and of its answer.
use Rattle.std.specs.Prelude.{◌≡◌, List, [], ◌∷◌}
use Rattle.lists.specs.Histories.{In}
use Rattle.runfile.specs.Run.{answer_of}
use Rattle.named.specs.NamedRun.{NamedRun}
use Rattle.named.specs.Counter.{counter}
use Rattle.named.specs.Tickets.{tickets}

-- K1, the smallest file: no steps
abbrev pub k1 : NamedRun
k1 = record { file = 1 ∷ 1 ∷ 1 ∷ 0 ∷ 0 ∷ 0 ∷ 1 ∷ 0 ∷ []; answer = 0 ∷ 0 ∷ [] }

-- K2 (RULES 3.6, 4.8): add 5, then read
abbrev pub k2 : NamedRun
k2 = record {
  file =
      1 ∷ 1 ∷ 1 ∷ 6 ∷ 0 ∷
      0 ∷ 1 ∷ 0 ∷
      2 ∷ 3 ∷ 10 ∷ 1 ∷ 3 ∷ 10 ∷
      0 ∷ 0 ∷ 2 ∷ 0 ∷ 5 ∷ 0 ∷ 0 ∷ 0 ∷  -- task 0 adds 5 to register 0
      0 ∷ 0 ∷ 0 ∷ 0 ∷ 0 ∷ 0 ∷ 0 ∷ 0 ∷  -- task 0 performs it
      0 ∷ 0 ∷ 0 ∷ 0 ∷ 0 ∷ 0 ∷ 0 ∷ 0 ∷  -- task 0 reports
      0 ∷ 0 ∷ 0 ∷ 0 ∷ 0 ∷ 0 ∷ 0 ∷ 0 ∷  -- task 0 asks to read register 0
      0 ∷ 0 ∷ 0 ∷ 0 ∷ 0 ∷ 0 ∷ 0 ∷ 0 ∷  -- task 0 performs it
      0 ∷ 0 ∷ 0 ∷ 0 ∷ 0 ∷ 0 ∷ 0 ∷ 0 ∷  -- task 0 reports 5
      [];
  answer =
      6 ∷ 0 ∷
      0 ∷ 0 ∷ 0 ∷ 0 ∷ 0 ∷ 0 ∷
      0 ∷ 0 ∷ 0 ∷ 0 ∷
      0 ∷ 0 ∷ 0 ∷ 0 ∷
      0 ∷ 0 ∷ 0 ∷ 0 ∷
      0 ∷ 0 ∷ 0 ∷ 0 ∷
      0 ∷ 0 ∷ 0 ∷ 0 ∷
      5 ∷ 0 ∷ 0 ∷ 0 ∷
      [];
}

-- K3, four bytes: refused with 1
abbrev pub k3 : NamedRun
k3 = record { file = 1 ∷ 1 ∷ 1 ∷ 0 ∷ []; answer = 1 ∷ [] }

-- K4, nine cards: refused with 3; eight are accepted
abbrev pub k4 : NamedRun
k4 = record { file = 9 ∷ 1 ∷ 1 ∷ 0 ∷ 0 ∷ 0 ∷ 1 ∷ 0 ∷ []; answer = 3 ∷ [] }

abbrev pub k4_eight : NamedRun
k4_eight = record { file = 8 ∷ 1 ∷ 1 ∷ 0 ∷ 0 ∷ 0 ∷ 1 ∷ 0 ∷ []; answer = 0 ∷ 0 ∷ [] }

-- K5, copies 0: refused with 4
abbrev pub k5 : NamedRun
k5 = record { file = 1 ∷ 1 ∷ 1 ∷ 0 ∷ 0 ∷ 0 ∷ 0 ∷ 0 ∷ []; answer = 4 ∷ [] }

-- K6, one card and copies 2, which is card 1: refused with 4
abbrev pub k6 : NamedRun
k6 = record { file = 1 ∷ 1 ∷ 1 ∷ 0 ∷ 0 ∷ 0 ∷ 2 ∷ 0 ∷ []; answer = 4 ∷ [] }

-- K7, a task that asks requests an absent register: 13; a present one: 20
abbrev pub k7 : NamedRun
k7 = record {
  file =
      1 ∷ 1 ∷ 1 ∷ 3 ∷ 0 ∷
      0 ∷ 1 ∷ 0 ∷
      1 ∷ 1 ∷ 1 ∷
      0 ∷ 0 ∷ 0 ∷ 0 ∷ 0 ∷ 0 ∷ 0 ∷ 0 ∷  -- task 0 asks to read register 0
      0 ∷ 1 ∷ 0 ∷ 0 ∷ 0 ∷ 0 ∷ 0 ∷ 0 ∷  -- busy, an absent register: 13
      0 ∷ 0 ∷ 0 ∷ 0 ∷ 0 ∷ 0 ∷ 0 ∷ 0 ∷  -- busy, a present one: 20
      [];
  answer =
      3 ∷ 0 ∷
      0 ∷ 13 ∷ 20 ∷
      0 ∷ 0 ∷ 0 ∷ 0 ∷
      0 ∷ 0 ∷ 0 ∷ 0 ∷
      0 ∷ 0 ∷ 0 ∷ 0 ∷
      [];
}

-- K8, the only copy is at home: code 5 gives 22, code 3 is taken
abbrev pub k8 : NamedRun
k8 = record {
  file =
      1 ∷ 1 ∷ 1 ∷ 3 ∷ 0 ∷
      0 ∷ 1 ∷ 0 ∷
      2 ∷ 5 ∷ 3 ∷
      0 ∷ 0 ∷ 1 ∷ 0 ∷ 5 ∷ 0 ∷ 0 ∷ 0 ∷  -- task 0 sets register 0 to 5
      0 ∷ 0 ∷ 0 ∷ 0 ∷ 0 ∷ 0 ∷ 0 ∷ 0 ∷  -- code 5: 22
      0 ∷ 0 ∷ 0 ∷ 0 ∷ 0 ∷ 0 ∷ 0 ∷ 0 ∷  -- code 3 is taken
      [];
  answer =
      3 ∷ 0 ∷
      0 ∷ 22 ∷ 0 ∷
      0 ∷ 0 ∷ 0 ∷ 0 ∷
      0 ∷ 0 ∷ 0 ∷ 0 ∷
      0 ∷ 0 ∷ 0 ∷ 0 ∷
      [];
}

-- K9 (RULES 3.5, 4.7): three cards, a task on each; register 0 on all of them, register 1 on card 1
abbrev pub k9 : NamedRun
k9 = record {
  file =
      3 ∷ 2 ∷ 3 ∷ 16 ∷ 0 ∷
      0 ∷ 1 ∷ 2 ∷ 7 ∷ 2 ∷ 0 ∷ 1 ∷
      2 ∷ 5 ∷ 6 ∷ 7 ∷ 9 ∷ 1 ∷ 3 ∷ 10 ∷ 2 ∷ 5 ∷ 6 ∷ 8 ∷ 9 ∷ 7 ∷ 9 ∷ 9 ∷
      2 ∷ 0 ∷ 1 ∷ 0 ∷ 7 ∷ 0 ∷ 0 ∷ 0 ∷  -- task 2 sets register 0 to 7
      2 ∷ 0 ∷ 0 ∷ 0 ∷ 0 ∷ 0 ∷ 0 ∷ 0 ∷  -- task 2 sends it to all holders
      2 ∷ 0 ∷ 0 ∷ 0 ∷ 0 ∷ 0 ∷ 0 ∷ 0 ∷  -- card 2 dispatches it: broadcast 1
      0 ∷ 0 ∷ 0 ∷ 0 ∷ 0 ∷ 0 ∷ 0 ∷ 0 ∷  -- card 0 takes it
      0 ∷ 0 ∷ 0 ∷ 0 ∷ 0 ∷ 0 ∷ 0 ∷ 0 ∷  -- card 0 delivers it
      0 ∷ 0 ∷ 0 ∷ 0 ∷ 0 ∷ 0 ∷ 0 ∷ 0 ∷  -- task 0 asks to read register 0
      0 ∷ 0 ∷ 0 ∷ 0 ∷ 0 ∷ 0 ∷ 0 ∷ 0 ∷  -- task 0 performs it
      0 ∷ 0 ∷ 0 ∷ 0 ∷ 0 ∷ 0 ∷ 0 ∷ 0 ∷  -- task 0 reports 7
      0 ∷ 1 ∷ 1 ∷ 0 ∷ 9 ∷ 0 ∷ 0 ∷ 0 ∷  -- task 0 sets register 1 to 9
      0 ∷ 0 ∷ 0 ∷ 0 ∷ 0 ∷ 0 ∷ 0 ∷ 0 ∷  -- task 0 sends it to card 1
      0 ∷ 0 ∷ 0 ∷ 0 ∷ 0 ∷ 0 ∷ 0 ∷ 0 ∷  -- card 0 dispatches it, tagged 1
      0 ∷ 0 ∷ 0 ∷ 0 ∷ 0 ∷ 0 ∷ 0 ∷ 0 ∷  -- it reaches card 1 and is held: 100
      1 ∷ 0 ∷ 0 ∷ 0 ∷ 0 ∷ 0 ∷ 0 ∷ 0 ∷  -- card 1 delivers: 33
      1 ∷ 0 ∷ 0 ∷ 0 ∷ 0 ∷ 0 ∷ 0 ∷ 0 ∷  -- card 1 takes broadcast 1
      1 ∷ 0 ∷ 0 ∷ 0 ∷ 0 ∷ 0 ∷ 0 ∷ 0 ∷  -- card 1 delivers it: 7
      1 ∷ 0 ∷ 0 ∷ 0 ∷ 0 ∷ 0 ∷ 0 ∷ 0 ∷  -- card 1 delivers the held one: 9
      [];
  answer =
      16 ∷ 0 ∷
      0 ∷ 0 ∷ 0 ∷ 0 ∷ 0 ∷ 0 ∷ 0 ∷ 0 ∷ 0 ∷ 0 ∷ 0 ∷ 100 ∷ 33 ∷ 0 ∷ 0 ∷ 0 ∷
      0 ∷ 0 ∷ 0 ∷ 0 ∷
      0 ∷ 0 ∷ 0 ∷ 0 ∷
      0 ∷ 0 ∷ 0 ∷ 0 ∷
      0 ∷ 0 ∷ 0 ∷ 0 ∷
      0 ∷ 0 ∷ 0 ∷ 0 ∷
      0 ∷ 0 ∷ 0 ∷ 0 ∷
      0 ∷ 0 ∷ 0 ∷ 0 ∷
      7 ∷ 0 ∷ 0 ∷ 0 ∷
      0 ∷ 0 ∷ 0 ∷ 0 ∷
      0 ∷ 0 ∷ 0 ∷ 0 ∷
      0 ∷ 0 ∷ 0 ∷ 0 ∷
      0 ∷ 0 ∷ 0 ∷ 0 ∷
      0 ∷ 0 ∷ 0 ∷ 0 ∷
      0 ∷ 0 ∷ 0 ∷ 0 ∷
      0 ∷ 0 ∷ 0 ∷ 0 ∷
      0 ∷ 0 ∷ 0 ∷ 0 ∷
      [];
}

-- K10, the cards of K9: card 1 delivers broadcast 1, then replies to a read of task 0; the reply is held at card 0 until card 0 takes
-- broadcast 1
abbrev pub k10 : NamedRun
k10 = record {
  file =
      3 ∷ 2 ∷ 3 ∷ 19 ∷ 0 ∷
      0 ∷ 1 ∷ 2 ∷ 7 ∷ 2 ∷ 0 ∷ 1 ∷
      2 ∷ 5 ∷ 6 ∷ 7 ∷ 9 ∷ 1 ∷ 4 ∷ 6 ∷ 8 ∷ 9 ∷ 6 ∷ 8 ∷ 9 ∷ 10 ∷ 7 ∷ 9 ∷ 10 ∷ 9 ∷ 10 ∷
      2 ∷ 0 ∷ 1 ∷ 0 ∷ 7 ∷ 0 ∷ 0 ∷ 0 ∷  -- task 2 sets register 0 to 7
      2 ∷ 0 ∷ 0 ∷ 0 ∷ 0 ∷ 0 ∷ 0 ∷ 0 ∷  -- task 2 sends it to all holders
      2 ∷ 0 ∷ 0 ∷ 0 ∷ 0 ∷ 0 ∷ 0 ∷ 0 ∷  -- card 2 dispatches it: broadcast 1
      1 ∷ 0 ∷ 0 ∷ 0 ∷ 0 ∷ 0 ∷ 0 ∷ 0 ∷  -- card 1 takes it
      1 ∷ 0 ∷ 0 ∷ 0 ∷ 0 ∷ 0 ∷ 0 ∷ 0 ∷  -- card 1 delivers it
      0 ∷ 1 ∷ 0 ∷ 0 ∷ 0 ∷ 0 ∷ 0 ∷ 0 ∷  -- task 0 asks to read register 1
      0 ∷ 1 ∷ 0 ∷ 0 ∷ 0 ∷ 0 ∷ 0 ∷ 0 ∷  -- task 0 sends it to card 1
      0 ∷ 0 ∷ 0 ∷ 0 ∷ 0 ∷ 0 ∷ 0 ∷ 0 ∷  -- card 0 dispatches it
      0 ∷ 0 ∷ 0 ∷ 0 ∷ 0 ∷ 0 ∷ 0 ∷ 0 ∷  -- it reaches card 1
      1 ∷ 0 ∷ 0 ∷ 0 ∷ 0 ∷ 0 ∷ 0 ∷ 0 ∷  -- card 1 delivers it and replies
      1 ∷ 0 ∷ 0 ∷ 0 ∷ 0 ∷ 0 ∷ 0 ∷ 0 ∷  -- card 1 dispatches the reply, tagged 1
      0 ∷ 0 ∷ 0 ∷ 0 ∷ 0 ∷ 0 ∷ 0 ∷ 0 ∷  -- it reaches card 0 and is held: 100
      0 ∷ 0 ∷ 0 ∷ 0 ∷ 0 ∷ 0 ∷ 0 ∷ 0 ∷  -- card 0 delivers: 33
      0 ∷ 0 ∷ 0 ∷ 0 ∷ 0 ∷ 0 ∷ 0 ∷ 0 ∷  -- task 0 is not done: 21
      0 ∷ 0 ∷ 0 ∷ 0 ∷ 0 ∷ 0 ∷ 0 ∷ 0 ∷  -- card 0 takes broadcast 1
      0 ∷ 0 ∷ 0 ∷ 0 ∷ 0 ∷ 0 ∷ 0 ∷ 0 ∷  -- card 0 delivers it
      0 ∷ 0 ∷ 0 ∷ 0 ∷ 0 ∷ 0 ∷ 0 ∷ 0 ∷  -- task 0 is not done: 21
      0 ∷ 0 ∷ 0 ∷ 0 ∷ 0 ∷ 0 ∷ 0 ∷ 0 ∷  -- card 0 delivers the reply
      0 ∷ 0 ∷ 0 ∷ 0 ∷ 0 ∷ 0 ∷ 0 ∷ 0 ∷  -- task 0 reports
      [];
  answer =
      19 ∷ 0 ∷
      0 ∷ 0 ∷ 0 ∷ 0 ∷ 0 ∷ 0 ∷ 0 ∷ 0 ∷ 0 ∷ 0 ∷ 0 ∷ 100 ∷ 33 ∷ 21 ∷ 0 ∷ 0 ∷ 21 ∷ 0 ∷ 0 ∷
      0 ∷ 0 ∷ 0 ∷ 0 ∷
      0 ∷ 0 ∷ 0 ∷ 0 ∷
      0 ∷ 0 ∷ 0 ∷ 0 ∷
      0 ∷ 0 ∷ 0 ∷ 0 ∷
      0 ∷ 0 ∷ 0 ∷ 0 ∷
      0 ∷ 0 ∷ 0 ∷ 0 ∷
      0 ∷ 0 ∷ 0 ∷ 0 ∷
      0 ∷ 0 ∷ 0 ∷ 0 ∷
      0 ∷ 0 ∷ 0 ∷ 0 ∷
      0 ∷ 0 ∷ 0 ∷ 0 ∷
      0 ∷ 0 ∷ 0 ∷ 0 ∷
      0 ∷ 0 ∷ 0 ∷ 0 ∷
      0 ∷ 0 ∷ 0 ∷ 0 ∷
      0 ∷ 0 ∷ 0 ∷ 0 ∷
      0 ∷ 0 ∷ 0 ∷ 0 ∷
      0 ∷ 0 ∷ 0 ∷ 0 ∷
      0 ∷ 0 ∷ 0 ∷ 0 ∷
      0 ∷ 0 ∷ 0 ∷ 0 ∷
      0 ∷ 0 ∷ 0 ∷ 0 ∷
      [];
}

-- Two messages of one tag, held at card 1 and released in the order in which they reached it, which is neither that of their sending nor
-- that of their tasks: in order of arrival (RULES 6.5). The cards of K9.
abbrev pub two_held : NamedRun
two_held = record {
  file =
      3 ∷ 2 ∷ 3 ∷ 23 ∷ 0 ∷
      0 ∷ 1 ∷ 2 ∷ 7 ∷ 2 ∷ 0 ∷ 1 ∷
      2 ∷ 5 ∷ 6 ∷ 7 ∷ 9 ∷ 7 ∷ 9 ∷ 10 ∷ 2 ∷ 5 ∷ 6 ∷ 2 ∷ 5 ∷ 6 ∷ 8 ∷ 8 ∷ 7 ∷ 9 ∷ 9 ∷ 9 ∷ 1 ∷ 3 ∷ 10 ∷
      2 ∷ 0 ∷ 1 ∷ 0 ∷ 7 ∷ 0 ∷ 0 ∷ 0 ∷  -- task 2 sets register 0 to 7
      2 ∷ 0 ∷ 0 ∷ 0 ∷ 0 ∷ 0 ∷ 0 ∷ 0 ∷  -- task 2 sends it to all holders
      2 ∷ 0 ∷ 0 ∷ 0 ∷ 0 ∷ 0 ∷ 0 ∷ 0 ∷  -- card 2 dispatches it: broadcast 1
      0 ∷ 0 ∷ 0 ∷ 0 ∷ 0 ∷ 0 ∷ 0 ∷ 0 ∷  -- card 0 takes it
      0 ∷ 0 ∷ 0 ∷ 0 ∷ 0 ∷ 0 ∷ 0 ∷ 0 ∷  -- card 0 delivers it
      2 ∷ 0 ∷ 0 ∷ 0 ∷ 0 ∷ 0 ∷ 0 ∷ 0 ∷  -- card 2 takes it
      2 ∷ 0 ∷ 0 ∷ 0 ∷ 0 ∷ 0 ∷ 0 ∷ 0 ∷  -- card 2 delivers it
      2 ∷ 0 ∷ 0 ∷ 0 ∷ 0 ∷ 0 ∷ 0 ∷ 0 ∷  -- task 2 reports
      0 ∷ 1 ∷ 1 ∷ 0 ∷ 9 ∷ 0 ∷ 0 ∷ 0 ∷  -- task 0 sets register 1 to 9
      0 ∷ 0 ∷ 0 ∷ 0 ∷ 0 ∷ 0 ∷ 0 ∷ 0 ∷  -- task 0 sends it to card 1
      0 ∷ 0 ∷ 0 ∷ 0 ∷ 0 ∷ 0 ∷ 0 ∷ 0 ∷  -- card 0 dispatches it, tagged 1
      2 ∷ 1 ∷ 1 ∷ 0 ∷ 4 ∷ 0 ∷ 0 ∷ 0 ∷  -- task 2 sets register 1 to 4
      2 ∷ 0 ∷ 0 ∷ 0 ∷ 0 ∷ 0 ∷ 0 ∷ 0 ∷  -- task 2 sends it to card 1
      2 ∷ 0 ∷ 0 ∷ 0 ∷ 0 ∷ 0 ∷ 0 ∷ 0 ∷  -- card 2 dispatches it, tagged 1
      2 ∷ 0 ∷ 0 ∷ 0 ∷ 0 ∷ 0 ∷ 0 ∷ 0 ∷  -- task 2's message reaches card 1 first, and is held: 100
      0 ∷ 0 ∷ 0 ∷ 0 ∷ 0 ∷ 0 ∷ 0 ∷ 0 ∷  -- task 0's message reaches card 1, and is held: 100
      1 ∷ 0 ∷ 0 ∷ 0 ∷ 0 ∷ 0 ∷ 0 ∷ 0 ∷  -- card 1 takes broadcast 1, which releases both
      1 ∷ 0 ∷ 0 ∷ 0 ∷ 0 ∷ 0 ∷ 0 ∷ 0 ∷  -- card 1 delivers it
      1 ∷ 0 ∷ 0 ∷ 0 ∷ 0 ∷ 0 ∷ 0 ∷ 0 ∷  -- card 1 delivers task 2's message: 4
      1 ∷ 0 ∷ 0 ∷ 0 ∷ 0 ∷ 0 ∷ 0 ∷ 0 ∷  -- card 1 delivers task 0's message: 9
      1 ∷ 1 ∷ 0 ∷ 0 ∷ 0 ∷ 0 ∷ 0 ∷ 0 ∷  -- task 1 asks to read register 1
      1 ∷ 0 ∷ 0 ∷ 0 ∷ 0 ∷ 0 ∷ 0 ∷ 0 ∷  -- task 1 performs it
      1 ∷ 0 ∷ 0 ∷ 0 ∷ 0 ∷ 0 ∷ 0 ∷ 0 ∷  -- task 1 reports 9
      [];
  answer =
      23 ∷ 0 ∷
      0 ∷ 0 ∷ 0 ∷ 0 ∷ 0 ∷ 0 ∷ 0 ∷ 0 ∷ 0 ∷ 0 ∷ 0 ∷ 0 ∷ 0 ∷ 0 ∷ 100 ∷ 100 ∷ 0 ∷ 0 ∷ 0 ∷ 0 ∷ 0 ∷ 0 ∷ 0 ∷
      0 ∷ 0 ∷ 0 ∷ 0 ∷
      0 ∷ 0 ∷ 0 ∷ 0 ∷
      0 ∷ 0 ∷ 0 ∷ 0 ∷
      0 ∷ 0 ∷ 0 ∷ 0 ∷
      0 ∷ 0 ∷ 0 ∷ 0 ∷
      0 ∷ 0 ∷ 0 ∷ 0 ∷
      0 ∷ 0 ∷ 0 ∷ 0 ∷
      0 ∷ 0 ∷ 0 ∷ 0 ∷
      0 ∷ 0 ∷ 0 ∷ 0 ∷
      0 ∷ 0 ∷ 0 ∷ 0 ∷
      0 ∷ 0 ∷ 0 ∷ 0 ∷
      0 ∷ 0 ∷ 0 ∷ 0 ∷
      0 ∷ 0 ∷ 0 ∷ 0 ∷
      0 ∷ 0 ∷ 0 ∷ 0 ∷
      0 ∷ 0 ∷ 0 ∷ 0 ∷
      0 ∷ 0 ∷ 0 ∷ 0 ∷
      0 ∷ 0 ∷ 0 ∷ 0 ∷
      0 ∷ 0 ∷ 0 ∷ 0 ∷
      0 ∷ 0 ∷ 0 ∷ 0 ∷
      0 ∷ 0 ∷ 0 ∷ 0 ∷
      0 ∷ 0 ∷ 0 ∷ 0 ∷
      0 ∷ 0 ∷ 0 ∷ 0 ∷
      9 ∷ 0 ∷ 0 ∷ 0 ∷
      [];
}

-- all of them
abbrev pub table : List NamedRun
table = k1 ∷ k2 ∷ k3 ∷ k4 ∷ k4_eight ∷ k5 ∷ k6 ∷ k7 ∷ k8 ∷ k9 ∷ k10 ∷ two_held ∷ counter ∷ tickets ∷ []

-- they are proved together, in one table (RULES 13.1)
abbrev pub NamedRuns : Type 0
NamedRuns = (r : NamedRun) → In r table → answer_of r.file ≡ r.answer
