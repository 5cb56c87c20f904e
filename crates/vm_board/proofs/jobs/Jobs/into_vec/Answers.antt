use Rattle.vm_board.proofs.jobs.Jobs.into_vec.Goals as goal

pub returns : goal.returns
returns g c = c.self.view_is
