use Rattle.vm_board.proofs.board.Board.draw.Given as goal

abbrev pub ghosts-draw_as : goal.ghosts-draw_as
ghosts-draw_as g a = record { jobs = a.self.now.jobs }
