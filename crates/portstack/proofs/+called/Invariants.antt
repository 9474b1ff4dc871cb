use Rattle.portstack.proofs.+called.Given as goal

-- proposed from what the function passes where it calls itself
abbrev pub decreases-called : goal.decreases-called
decreases-called l = l.op
