use Rattle.des_crew.proofs.draws.Draws.draw.Given as goal

abbrev pub ghosts-step : goal.ghosts-step
ghosts-step a = record { parts = a.self.now.parts; seats = a.self.now.seats; place = a.token.now.id }
