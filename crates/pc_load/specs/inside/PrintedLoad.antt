-- What a report of loads shows.
use Rattle.pc_load.specs.declared.loading.PrintedLoad.{PrintedLoad}
use Rattle.pc_load.specs.Loading.{Loading}

abbrev pub loading_of : PrintedLoad → Loading
loading_of s = record { days = s.days; order = s.order.now; items = s.items.now; resources = s.resources.now }
